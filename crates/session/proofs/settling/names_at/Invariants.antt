use Rattle.{session.proofs.Common.{◌≡◌, ◌++◌, drop, filter_map, option_map}, rule_model.specs.Tuples.{name_of}}
use Rattle.std.specs.FinMap as map
use Rattle.session.proofs.settling.names_at.Given as goal

abbrev pub invariant-loop-tag : goal.invariant-loop-tag
invariant-loop-tag l = l.names.items ++ filter_map (λ tag. option_map name_of (map.get l.facts tag)) (drop l.tag-index l.tags) ≡ filter_map (λ tag. option_map name_of (map.get l.facts tag)) l.tags
