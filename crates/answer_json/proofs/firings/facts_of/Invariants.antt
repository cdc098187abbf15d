use Rattle.{std.{proofs.Common.{◌≡◌, ◌++◌, drop}, specs.Prelude.{map}}, serde_json.specs.View.{view}, answer_json.specs.Firings.{bound_facts}}
use Rattle.answer_json.proofs.firings.facts_of.Given as goal

abbrev pub invariant-loop-fact : goal.invariant-loop-fact
invariant-loop-fact l = map view l.all.items ++ bound_facts l.program l.left (drop l.fact-index l.facts) ≡ bound_facts l.program l.names l.facts
