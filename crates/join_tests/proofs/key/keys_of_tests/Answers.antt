use Rattle.{join_tests.proofs.{Common.{◌++◌, sym}, Counting.{next_test}}, std.proofs.lemmas.List.{append_assoc}}
use Rattle.join_tests.proofs.key.keys_of_tests.Goals as goal

pub loop-test-preserved : goal.loop-test-preserved
loop-test-preserved c =
    next_test (λ state keys. state ++ keys) (λ state keys more. sym (append_assoc state keys more)) c.args.tests.now c.loop-test.test-index c.test-item.result c.as_slice.result.now
    c.loop-test.keys.items c.put_choices.new.keys.items _ c.loop-test-test.true c.test-item.is c.as_slice.ensures c.in_ok-put_choices.ensures c.loop-test.invariant
