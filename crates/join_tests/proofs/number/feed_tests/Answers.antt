use Rattle.join_tests.proofs.{Common.{map, fed_with, part}, Counting.{fed_both, next_test}}
use Rattle.join_tests.proofs.number.feed_tests.Goals as goal

pub loop-test-preserved : goal.loop-test-preserved
loop-test-preserved g c =
    let parts = part (g.F.Facts.map c.args.facts.now) c.args.partner in
    next_test (λ state keys. fed_with state (map parts keys)) (fed_both parts) c.args.tests.now c.loop-test.test-index c.test-item.result c.as_slice.result.now c.loop-test.state
    c.feed_choices.new.state _ c.loop-test-test.true c.test-item.is c.as_slice.ensures c.feed_choices.ensures c.loop-test.invariant
