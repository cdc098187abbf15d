use Rattle.drl_show.proofs.Common.{◌≡◌, ◌∷◌, drop, Mark, each, added}
use Rattle.drl_show.proofs.shapes.write_behind.Given as goal

abbrev pub invariant-loop-item : goal.invariant-loop-item
invariant-loop-item g l = added l.out.items (each (λ y. Mark l.separator ∷ g.T.Printed.tokens y) (drop l.item-index l.items)) ≡ added l.fn.out.items (each (λ y. Mark l.separator ∷ g.T.Printed.tokens y) l.items)
