use Rattle.{std.{proofs.Common.{◌≡◌, ◌++◌, drop}, specs.List.{flat_map}}, drl_names.specs.Names.{result_name}}
use Rattle.drl_names.proofs.rule_names.names_of_results.Given as goal

abbrev pub invariant-loop-condition : goal.invariant-loop-condition
invariant-loop-condition l = l.names.items ++ flat_map result_name (drop l.condition-index l.conditions) ≡ flat_map result_name l.conditions
