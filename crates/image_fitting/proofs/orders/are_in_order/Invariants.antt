use Rattle.image_fitting.proofs.Common.{◌≡◌, Less, AllAdjacentBelow}
use Rattle.image_fitting.proofs.orders.are_in_order.Given as goal

abbrev pub invariant-loop-place : goal.invariant-loop-place
invariant-loop-place g l = AllAdjacentBelow (λ x y. g.T.Ranked.order x y ≡ Less) l.items l.place
