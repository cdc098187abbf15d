use Rattle.rete_net.proofs.Common.{take, tests_hold, unbound, AreWithin}
use Rattle.rete_net.proofs.bounds.range_of.Given as goal

abbrev pub invariant-loop-test : goal.invariant-loop-test
invariant-loop-test l = AreWithin l.range (λ f. tests_hold unbound f (take l.test-index l.tests))
