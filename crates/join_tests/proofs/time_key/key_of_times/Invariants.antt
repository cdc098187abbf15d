use Rattle.join_tests.proofs.Common.{◌≡◌, drop, key_of_times}
use Rattle.join_tests.proofs.time_key.key_of_times.Given as goal

abbrev pub invariant-loop-test : goal.invariant-loop-test
invariant-loop-test l = key_of_times (drop l.test-index l.tests) ≡ key_of_times l.tests
