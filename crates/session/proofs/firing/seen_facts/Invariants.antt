use Rattle.{session.proofs.Common.{◌≡◌, ◌++◌, drop, filter_map}, session_model.specs.Places.{seen_at}}
use Rattle.session.proofs.firing.seen_facts.Given as goal

abbrev pub invariant-loop-named : goal.invariant-loop-named
invariant-loop-named l = l.found.items ++ filter_map (seen_at l.facts) (drop l.named-index l.names) ≡ filter_map (seen_at l.facts) l.names
