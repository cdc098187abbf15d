use Rattle.drl_compile.proofs.Common.{◌≡◌, ◌++◌, map, drop, side_of}
use Rattle.drl_compile.proofs.tests_of.sides.Given as goal

abbrev pub invariant-loop-operand : goal.invariant-loop-operand
invariant-loop-operand l = l.sides.items ++ map (side_of l.ty l.place.sight) (drop l.operand-index l.operands) ≡ map (side_of l.ty l.place.sight) l.operands
