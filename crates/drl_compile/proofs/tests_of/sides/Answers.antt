use Rattle.drl_compile.proofs.{Common.{map, refl, side_of}, Loops.{one_mapped, all_made}}
use Rattle.drl_compile.proofs.tests_of.sides.Goals as goal

pub loop-operand-preserved : goal.loop-operand-preserved
loop-operand-preserved c = one_mapped _ _ _ _ _ _ _ _ c.loop-operand-test.true c.operand-item.is c.in_ok-side.ensures c.in_ok-push.ensures.items c.loop-operand.invariant

pub returns : goal.returns
returns c = all_made (map (side_of c.args.ty.now c.args.place.now.sight)) _ _ _ _ _ c.loop-operand-test.false refl c.from_vec.ensures c.loop-operand.invariant
