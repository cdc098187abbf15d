use Rattle.join_tests.proofs.Common.{◌≡◌, drop, Nothing, keys_of_tests, and_more}
use Rattle.join_tests.proofs.key.keying_of_tests.Given as goal

abbrev pub invariant-loop-test : goal.invariant-loop-test
invariant-loop-test l = and_more l.keying (keys_of_tests (drop l.test-index l.tests)) ≡ and_more Nothing (keys_of_tests l.tests)
