use Rattle.drl_compile.proofs.{Common.{refl, flat_map, time_tests_in}, Loops.{one_more, all_made}}
use Rattle.drl_compile.proofs.tests_of.time_tests.Goals as goal

pub loop-part-preserved : goal.loop-part-preserved
loop-part-preserved c =
    one_more (flat_map (time_tests_in c.args.place.now.sight)) _ _ _ _ _ _ _ c.loop-part-test.true c.part-item.is refl c.in_ok-add_time.ensures c.loop-part.invariant

pub returns : goal.returns
returns c = all_made (flat_map (time_tests_in c.args.place.now.sight)) _ _ _ _ _ c.loop-part-test.false refl c.from_vec.ensures c.loop-part.invariant
