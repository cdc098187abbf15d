use Rattle.std.proofs.Common.{◌≡◌, take}
use Rattle.drl_grammar.proofs.copying.copy_tests.Given as goal

abbrev pub invariant-loop-test : goal.invariant-loop-test
invariant-loop-test l = l.items.items ≡ take l.test-index l.test-items
