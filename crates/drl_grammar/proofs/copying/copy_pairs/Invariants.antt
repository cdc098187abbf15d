use Rattle.std.proofs.Common.{◌≡◌, take}
use Rattle.drl_grammar.proofs.copying.copy_pairs.Given as goal

abbrev pub invariant-loop-pair : goal.invariant-loop-pair
invariant-loop-pair g l = l.items.items ≡ take l.pair-index l.pair-items
