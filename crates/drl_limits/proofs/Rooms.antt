-- What is left of a room when a list of things takes of it, one after the other.
use Rattle.drl_limits.proofs.Common.{◌≡◌, ◌+◌, ◌-◌, ◌∷◌, ℕ, Bool, true, false, List, Some, None, is_some, nat_le, cond, refl, sym, ap, ◌∙◌, arith, sum_by}
use Rattle.{drl_limits.proofs.Common.{left_of}, std.proofs.lemmas.{Bool.Decides.{nat_tests}, List.Sums.{sum_by-cons}}}

left_more : (r a b q : ℕ) → left_of r a ≡ Some q → left_of q b ≡ left_of r (a + b)
left_more r a b q e = grind (arith, nat_tests)

left_none : (r a b : ℕ) → left_of r a ≡ None → left_of r (a + b) ≡ None
left_none r a b e = grind (arith, nat_tests)

pub room_more : {X : Type 0} (f : X → ℕ) (r q : ℕ) (x : X) (xs : List X) → left_of r (f x) ≡ Some q → left_of q (sum_by f xs) ≡ left_of r (sum_by f (x ∷ xs))
room_more f r q x xs e = left_more r (f x) (sum_by f xs) q e ∙ ap (λ n. left_of r n) (sym (sum_by-cons f x xs))

pub room_none : {X : Type 0} (f : X → ℕ) (r : ℕ) (x : X) (xs : List X) → left_of r (f x) ≡ None → left_of r (sum_by f (x ∷ xs)) ≡ None
room_none f r x xs e = ap (λ n. left_of r n) (sum_by-cons f x xs) ∙ left_none r (f x) (sum_by f xs) e

pub room_all : (r : ℕ) → left_of r 0 ≡ Some r
room_all r = grind (arith, nat_tests)

is_by : (b : Bool) (n : ℕ) → is_some (cond b (Some n) None) ≡ b
is_by true n = refl
is_by false n = refl

pub room_is : (r n : ℕ) → is_some (left_of r n) ≡ nat_le n r
room_is r n = is_by (nat_le n r) (r - n)
