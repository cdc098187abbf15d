use Rattle.join_tests.proofs.{Common.{and_more}, Counting.{and_both, next_test}}
use Rattle.join_tests.proofs.key.keying_of_tests.Goals as goal

pub loop-test-preserved : goal.loop-test-preserved
loop-test-preserved c =
    next_test and_more and_both c.args.tests.now c.loop-test.test-index c.test-item.result c.as_slice.result.now c.loop-test.keying c.with_choices-keying.result _ c.loop-test-test.true c.test-item.is
    c.as_slice.ensures c.with_choices-keying.ensures c.loop-test.invariant
