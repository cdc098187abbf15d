use Rattle.due_queue.proofs.Common.{◌≡◌, ◌∙◌, ap, refl, true, false, Ordering, Less, Equal, Greater, is_le, is_gt, ordering_reverse, upto, pair_cmp}
use Rattle.due_queue.proofs.Orders.{not_greater, pair_total}
use Rattle.due_queue.proofs.rising_map.leads.Goals as goal

greater_back : (o : Ordering) → is_le o ≡ false → is_gt (ordering_reverse o) ≡ false
greater_back Less e = let f : true ≡ false = e in cc
greater_back Equal e = let f : true ≡ false = e in cc
greater_back Greater e = refl

pub returns-in-Some-first-clause-rising : goal.returns-in-Some-first-clause-rising
returns-in-Some-first-clause-rising g c is pair e = (
  c.in-Some-first.first,
  c.in-Some-first.ensures.waits,
  upto (pair_total g.met.M.Ord.total g.met.K.Ord.total) c.in-Some-first.first c.in-Some.other pair
      (not_greater (pair_cmp g.M.Ord.cmp g.K.Ord.cmp c.in-Some-first.first c.in-Some.other) (let a = c.cmp.ensures in let b = c.is_le.ensures in cc)) (c.in-Some.ensures.least pair.0 pair.1 e),
)

pub returns-in-Some-first-clause-others : goal.returns-in-Some-first-clause-others
returns-in-Some-first-clause-others g c is pair e = (
  c.in-Some.other,
  c.in-Some.ensures.waits,
  upto (pair_total g.met.M.Ord.total g.met.K.Ord.total) c.in-Some.other c.in-Some-first.first pair
      (ap is_gt ((pair_total g.met.M.Ord.total g.met.K.Ord.total).antisymm c.in-Some.other c.in-Some-first.first)
      ∙ greater_back (pair_cmp g.M.Ord.cmp g.K.Ord.cmp c.in-Some-first.first c.in-Some.other) (let a = c.cmp.ensures in let b = c.is_le.ensures in cc))
      (c.in-Some-first.ensures.least pair.0 pair.1 e),
)
