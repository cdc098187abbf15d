-- Laws of the greatest of limits.
use Rattle.expiry_infer.proofs.Common.{◌≡◌, ◌⊎◌, inl, inr, ◌<◌, ◌≤◌, ◌+◌, ℕ, ℤ, ◌≤ℤ◌, List, length, Some, refl, sym, ◌∙◌, subst, arith, pos, negsuc, to_z, of_z}
use Rattle.expiry_infer.proofs.Common.{to_z-of_z, w64, FitsSigned, ◌^◌, slice_get, ints, Bound, IsWithinNetwork, Limit, finite, infinite, plus, limit_of}
use Rattle.expiry_infer.proofs.Common.{IsShortLimit, IsSmallLimit, Among, IsTop, slice_get_within, Below, IsShortSpan, the_same}
use Rattle.{fx_base.{specs.declared.bound.Bound.TheVariants.{Finite, Infinite}, proofs.Orders.{below_or_last, ≤ℤ_trans}}, rule_world.specs.Events.{most_millis}}

pub below_itself : (l : Limit) → Below l l
below_itself (finite a) = omega (arith, ints)
below_itself infinite = tt

pub below_both : (a b c : Limit) → Below a b → Below b c → Below a c
below_both (finite a) (finite b) (finite c) h k = ≤ℤ_trans a b c h k
below_both (finite a) (finite b) infinite h k = tt
below_both (finite a) infinite (finite c) h k = absurd k
below_both (finite a) infinite infinite h k = tt
below_both infinite (finite b) c h k = absurd h
below_both infinite infinite (finite c) h k = absurd k
below_both infinite infinite infinite h k = tt

pub top_of_none : (of : Limit → Type 0) (low : Limit) → ((l : Limit) → of l → ⊥) → IsTop of low low
top_of_none of low none = record { above_least = below_itself low; above_all = λ l h. absurd (none l h); reached = inl refl }

pub top_like : (of other : Limit → Type 0) (low top : Limit) → ((l : Limit) → of l → other l) → ((l : Limit) → other l → of l) → IsTop of low top → IsTop other low top
top_like of other low top f g h = record { above_least = h.above_least; above_all = λ l k. h.above_all l (g l k); reached = reached_by h.reached }
  where
    reached_by : (top ≡ low) ⊎ of top → (top ≡ low) ⊎ other top
    reached_by (inl e) = inl e
    reached_by (inr k) = inr (f top k)

-- ---- elements of a list, one after the other

pub top_next : {A : Type 0} (xs : List A) (gives : ℕ → A → Limit → Type 0) (n : ℕ) (x : A) (low middle top : Limit) → slice_get xs n ≡ Some x
    → IsTop (Among xs gives n) low middle → IsTop (gives n x) middle top → IsTop (Among xs gives (n + 1)) low top
top_next xs gives n x low middle top at first next = record {
  above_least = below_both low middle top first.above_least next.above_least;
  above_all = λ l h. under l h (below_or_last h.place n h.before);
  reached = by_next next.reached first.reached;
}
  where
    below_more : (place : ℕ) → place < n → place < n + 1
    below_more place h = omega arith

    last : n < n + 1
    last = omega arith

    under : (l : Limit) (h : Among xs gives (n + 1) l) → (h.place < n) ⊎ (h.place ≡ n) → Below l top
    under l h (inl b) = below_both l middle top (first.above_all l (record { place = h.place; before = b; x = h.x; stands = h.stands; limit = h.limit })) next.above_least
    under l h (inr e) =
        let is = the_same (sym (subst (λ (k : ℕ). slice_get xs k ≡ Some h.x) e h.stands) ∙ at) in
        next.above_all l (subst (λ y. gives n y l) is (subst (λ (k : ℕ). gives k h.x l) e h.limit))

    by_first : top ≡ middle → (middle ≡ low) ⊎ Among xs gives n middle → (top ≡ low) ⊎ Among xs gives (n + 1) top
    by_first e (inl k) = inl (e ∙ k)
    by_first e (inr g) = inr (record { place = g.place; before = below_more g.place g.before; x = g.x; stands = g.stands; limit = subst (gives g.place g.x) (sym e) g.limit })

    by_next : (top ≡ middle) ⊎ gives n x top → (middle ≡ low) ⊎ Among xs gives n middle → (top ≡ low) ⊎ Among xs gives (n + 1) top
    by_next (inl e) k = by_first e k
    by_next (inr g) k = inr (record { place = n; before = last; x = x; stands = at; limit = g })

pub top_skipped : {A : Type 0} (xs : List A) (gives : ℕ → A → Limit → Type 0) (n : ℕ) (x : A) (low top : Limit) → slice_get xs n ≡ Some x
    → IsTop (Among xs gives n) low top → ((l : Limit) → gives n x l → ⊥) → IsTop (Among xs gives (n + 1)) low top
top_skipped xs gives n x low top at h none = top_next xs gives n x low top top at h (top_of_none (gives n x) top none)

pub anywhere : {A : Type 0} (xs : List A) (gives : ℕ → A → Limit → Type 0) (end place : ℕ) (x : A) (l : Limit) → length xs ≤ end
    → slice_get xs place ≡ Some x → gives place x l → Among xs gives end l
anywhere xs gives end place x l all at g = record { place = place; before = inside (slice_get_within xs place x at); x = x; stands = at; limit = g }
  where
    inside : place < length xs → place < end
    inside h = omega arith

-- ---- small limits

-- the greatest is small where all are
pub top_small : (of : Limit → Type 0) (low top : Limit) → IsTop of low top → ((l : Limit) → of l → IsSmallLimit l) → IsSmallLimit low → IsSmallLimit top
top_small of low top h all small = by h.reached
  where
    by : (top ≡ low) ⊎ of top → IsSmallLimit top
    by (inl e) = subst IsSmallLimit (sym e) small
    by (inr g) = all top g

-- a reach and a tail have a small sum
pub sum_small : (reach : Bound) (tail : Limit) → IsWithinNetwork reach → IsShortLimit tail → IsSmallLimit (plus (limit_of reach) tail)
unfolding most_millis
sum_small (Finite reach) (finite tail) within short =
    let (least, most) = within in
    let (low, high) = short in omega (arith, ints)
sum_small (Finite reach) infinite within short = tt
sum_small Infinite tail within short = tt

-- and so has a span
pub span_small : (n : ℤ) → IsShortSpan n → IsSmallLimit (finite n)
unfolding most_millis
span_small n (low, high) = omega (arith, ints)

-- a span has 64 bits
pub span_whole : (n : ℤ) → IsShortSpan n → to_z w64 (of_z w64 n) ≡ n
unfolding most_millis
span_whole (pos n) (low, high) = let less : n ≤ 2 ^ 53 = omega (arith, ints) in let fits : FitsSigned w64 (pos n) = omega (arith, ints) in to_z-of_z fits
span_whole (negsuc n) (low, high) = absurd (omega (arith, ints))
