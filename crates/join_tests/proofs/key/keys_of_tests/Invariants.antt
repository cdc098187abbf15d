use Rattle.join_tests.proofs.Common.{◌≡◌, ◌++◌, drop, keys_of_tests}
use Rattle.join_tests.proofs.key.keys_of_tests.Given as goal

abbrev pub invariant-loop-test : goal.invariant-loop-test
invariant-loop-test l = l.keys.items ++ keys_of_tests (drop l.test-index l.tests) ≡ keys_of_tests l.tests
