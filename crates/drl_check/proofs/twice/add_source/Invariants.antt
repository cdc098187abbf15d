use Rattle.drl_check.proofs.Common.{◌≡◌, ◌++◌, drop, flat_map, part_variable, source_variables}
use Rattle.drl_check.proofs.twice.add_source.Given as goal

abbrev pub invariant-loop-part : goal.invariant-loop-part
invariant-loop-part l = l.names.items ++ flat_map part_variable (drop l.part-index l.source.parts) ≡ l.fn.names.items ++ source_variables l.source
