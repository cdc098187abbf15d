use Rattle.{std.{proofs.Common.{◌≡◌, ◌++◌, drop}, specs.Prelude.{map}}, serde_json.specs.View.{view}, answer_json.specs.Firings.{bound_results}}
use Rattle.answer_json.proofs.firings.results_of.Given as goal

abbrev pub invariant-loop-value : goal.invariant-loop-value
invariant-loop-value l = map view l.all.items ++ bound_results l.left (drop l.value-index l.values) ≡ bound_results l.names l.values
