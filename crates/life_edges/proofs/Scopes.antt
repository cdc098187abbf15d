-- What the conditions that matter to one of them have of the rule.
use Rattle.life_edges.proofs.Common.{◌≡◌, ◌<◌, ◌≤◌, ℕ, zero, suc, List, [], ◌∷◌, length, take, Some, refl, sym, ap, subst, arith, slice_get, All, Condition}
use Rattle.life_edges.proofs.Common.{Plain, Negated, Existing, Folded, Program, TimeTest, pattern_of, HaveOperators, bindings, Placed, HaveLives, scope}
use Rattle.life_edges.{proofs.Common.{HaveNetwork}, specs.Places.{placed, StandsIn}}

front : (n place : ℕ) (xs : List Condition) (c : Condition) → slice_get (take n xs) place ≡ Some c → (slice_get xs place ≡ Some c) × (take place (take n xs) ≡ take place xs)
front zero place xs c h = absurd cc
front (suc n) place [] c h = absurd cc
front (suc n) zero (x ∷ xs) c h = (h, refl)
front (suc n) (suc place) (x ∷ xs) c h = let f = front n place xs c h in (f.0, ap (λ (ys : List Condition). x ∷ ys) f.1)

kept : (place : ℕ) (xs : List Condition) (c : Condition) → slice_get xs place ≡ Some c → slice_get (take (suc place) xs) place ≡ Some c
kept place [] c h = absurd cc
kept zero (x ∷ xs) c h = h
kept (suc place) (x ∷ xs) c h = kept place xs c h

shorter : (n : ℕ) (xs : List Condition) → length (take n xs) ≤ length xs
shorter zero xs = omega arith
shorter (suc n) [] = omega arith
shorter (suc n) (x ∷ xs) = let h = shorter n xs in omega arith

first_operators : (n : ℕ) (xs : List Condition) → HaveOperators xs → HaveOperators (take n xs)
first_operators zero xs h = tt
first_operators (suc n) [] h = tt
first_operators (suc n) (x ∷ xs) h = (h.0, first_operators n xs h.1)

first_network : (n : ℕ) (xs : List Condition) → HaveNetwork xs → HaveNetwork (take n xs)
first_network n xs h = record {
  few = at_most (shorter n xs) h.few;
  operators = first_operators n xs h.operators;
  named = λ place c at.
      let f = front n place xs c at in
      subst (λ (ys : List Condition). All (λ (test : TimeTest). test.fact < bindings ys) (pattern_of c).times) (sym f.1) (h.named place c f.0);
}
  where
    at_most : {a b : ℕ} → a ≤ b → b ≤ 8 → a ≤ 8
    at_most h k = omega arith

first_lives : (p : Program) (n : ℕ) (xs : List Condition) → HaveLives p xs → HaveLives p (take n xs)
first_lives p n xs h = record { network = first_network n xs h.network; windows = λ place c at. h.windows place c (front n place xs c at).0; tails = λ place c at. h.tails place c (front n place xs c at).0 }

-- a scope is all conditions or the first ones
scoped : (P : List Condition → Type 0) (conditions : List Condition) (i : ℕ) (c : Condition) → P conditions → P (take (suc i) conditions) → P (scope conditions (placed i c))
scoped P conditions i (Plain pattern) whole first = whole
scoped P conditions i (Negated pattern) whole first = first
scoped P conditions i (Existing pattern) whole first = first
scoped P conditions i (Folded a) whole first = first

pub scope_lives : (p : Program) (conditions : List Condition) (i : Placed) → HaveLives p conditions → HaveLives p (scope conditions i)
scope_lives p conditions i h = scoped (HaveLives p) conditions i.place i.condition h (first_lives p (suc i.place) conditions h)

pub scope_at : (conditions : List Condition) (i : Placed) → StandsIn conditions i → StandsIn (scope conditions i) i
scope_at conditions i at = scoped (λ xs. StandsIn xs i) conditions i.place i.condition at (kept i.place conditions i.condition at)

pub scope_network : (conditions : List Condition) (i : Placed) → HaveNetwork conditions → HaveNetwork (scope conditions i)
scope_network conditions i h = scoped HaveNetwork conditions i.place i.condition h (first_network (suc i.place) conditions h)
