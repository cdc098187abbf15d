use Rattle.not_node.proofs.Common.{drop, AreOperators}
use Rattle.not_node.proofs.moments.read_operators.Given as goal

abbrev pub invariant-loop-test : goal.invariant-loop-test
invariant-loop-test l = AreOperators (drop l.test-index l.tests) → AreOperators l.tests
