use Rattle.drl_compile.proofs.{Common.{map, refl, compare_of}, Loops.{one_mapped, all_made}}
use Rattle.drl_compile.proofs.tests_of.choice.Goals as goal

pub loop-cmp-preserved : goal.loop-cmp-preserved
loop-cmp-preserved c = one_mapped _ _ _ _ _ _ _ _ c.loop-cmp-test.true c.cmp-item.is c.in_ok-compare.ensures c.in_ok-push.ensures.items c.loop-cmp.invariant

pub returns : goal.returns
returns c = all_made (map (compare_of c.args.ty.now c.args.place.now.sight)) _ _ _ _ _ c.loop-cmp-test.false refl c.from_vec.ensures c.loop-cmp.invariant
