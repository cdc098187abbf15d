use Rattle.rete_net.proofs.{Common.{take, tests_hold, unbound}, Ranged.{within_tests}}
use Rattle.rete_net.proofs.bounds.range_of.Goals as goal

pub loop-test-preserved : goal.loop-test-preserved
loop-test-preserved c =
    within_tests c.narrowed_by_choices-range.result c.args.tests.now c.loop-test.test-index c.test-item.result c.as_slice.result.now c.loop-test-test.true c.test-item.is c.as_slice.ensures
    (c.narrowed_by_choices-range.ensures (λ f. tests_hold unbound f (take c.loop-test.test-index c.args.tests.now)) c.loop-test.invariant)
