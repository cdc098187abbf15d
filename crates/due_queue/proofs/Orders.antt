-- The order of moments with keys.
use Rattle.due_queue.proofs.Common.{◌≡◌, ◌∙◌, sym, ap, refl, List, [], ◌∷◌, Bool, true, false, cond, Some, Ordering, Less, Equal, Greater, is_eq, is_gt}
use Rattle.due_queue.proofs.Common.{ordering_then, is_lt, is_le, ordering_reverse, is_at, IsTotalOrder, upto, on_total, then_total, alike_right, Bound}
use Rattle.due_queue.proofs.Common.{Included, Excluded, Unbounded, is_past_end, found, pair_cmp}

-- what is not after another has no later moment
pub gt_first : (o p : Ordering) → is_gt (ordering_then o p) ≡ false → is_gt o ≡ false
gt_first Less p e = refl
gt_first Equal p e = refl
gt_first Greater p e = e

-- what is less in the second and not greater in the first is less
pub less_then : (o : Ordering) → is_gt o ≡ false → ordering_then o Less ≡ Less
less_then Less e = refl
less_then Equal e = refl
less_then Greater e = let f : true ≡ false = e in cc

-- answers by their tests
pub is_less : (o : Ordering) → is_lt o ≡ true → o ≡ Less
is_less Less e = refl
is_less Equal e = let f : false ≡ true = e in cc
is_less Greater e = let f : false ≡ true = e in cc

pub not_greater : (o : Ordering) → is_le o ≡ true → is_gt o ≡ false
not_greater Less e = refl
not_greater Equal e = refl
not_greater Greater e = let f : false ≡ true = e in cc

pub pair_total : {M K : Type 0} {moments : M → M → Ordering} {keys : K → K → Ordering} → IsTotalOrder moments → IsTotalOrder keys → IsTotalOrder (pair_cmp moments keys)
pair_total m k = then_total (on_total (λ t. t.0) m) (on_total (λ t. t.1) k)

-- under equal keys the same is found
pub found_same : {M K V : Type 0} {order : K → K → Ordering} → IsTotalOrder order → (a b : K) → order a b ≡ Equal → (waiting : List (K × (M × V))) → found order waiting a ≡ found order waiting b
found_same total a b e [] = refl
found_same {order = order} total a b e (x ∷ xs) =
    ap (λ o. cond (is_eq o) (Some x.1) (found order xs a)) (total.congr a b x.0 e) ∙ ap (cond (is_at (order b) x.0) (Some x.1)) (found_same total a b e xs)

module _ {M : Type 0} {order : M → M → Ordering} (total : IsTotalOrder order) where
  -- equal moments are past the same ends
  pub past_same : (bound : Bound M) (x y : M) → order x y ≡ Equal → is_past_end order bound x ≡ is_past_end order bound y
  past_same (Included last) x y e = ap is_lt (alike_right total x y last e)
  past_same (Excluded end) x y e = ap is_le (alike_right total x y end e)
  past_same Unbounded x y e = refl

  -- a moment that is not before one past the end is past it too
  pub past_later : (bound : Bound M) (x y : M) → is_gt (order x y) ≡ false → is_past_end order bound x ≡ true → is_past_end order bound y ≡ true
  past_later (Included last) x y after past = by (is_gt (order y last)) refl
    where
      turned : (o : Ordering) → is_gt (ordering_reverse o) ≡ is_lt o
      turned Less = refl
      turned Equal = refl
      turned Greater = refl

      back : (z : M) → is_gt (order z last) ≡ is_lt (order last z)
      back z = ap is_gt (total.antisymm z last) ∙ turned (order last z)

      by : (b : Bool) → is_gt (order y last) ≡ b → is_lt (order last y) ≡ true
      by true e = sym (back y) ∙ e
      by false e = let f : true ≡ false = sym past ∙ sym (back x) ∙ upto total x y last after e in cc
  past_later (Excluded end) x y after past = up (order end y) (upto total end x y (down (order end x) past) after)
    where
      down : (o : Ordering) → is_le o ≡ true → is_gt o ≡ false
      down Less e = refl
      down Equal e = refl
      down Greater e = let f : false ≡ true = e in cc

      up : (o : Ordering) → is_gt o ≡ false → is_le o ≡ true
      up Less e = refl
      up Equal e = refl
      up Greater e = let f : true ≡ false = e in cc
  past_later Unbounded x y after past = let f : false ≡ true = past in cc
