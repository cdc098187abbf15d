-- Places of the conditions that bind facts.
use Rattle.life_edges.proofs.Common.{◌≡◌, ◌<◌, ◌≤◌, ℕ, zero, suc, List, [], ◌∷◌, length, take, Some, true, false, refl, ap, arith, slice_get, All, All-weaker}
use Rattle.life_edges.proofs.Common.{Condition, Plain, Negated, Existing, Folded, Pattern, TimeTest, pattern_of, bindings, NameEarlier, place_of}

pub the_same : {A : Type 0} {x y : A} → Some x ≡ Some y → x ≡ y
the_same e = cc

pub false_is : false ≡ true → ⊥
false_is e = cc

-- a bound fact's place is one of the conditions
pub place_below : (conditions : List Condition) (number : ℕ) → number < bindings conditions → place_of conditions number < length conditions
place_below [] number h = omega arith
place_below (Plain pattern ∷ conditions) zero h = omega arith
place_below (Plain pattern ∷ conditions) (suc number) h = let below = place_below conditions number (omega arith) in omega arith
place_below (Negated pattern ∷ conditions) number h = let below = place_below conditions number h in omega arith
place_below (Existing pattern ∷ conditions) number h = let below = place_below conditions number h in omega arith
place_below (Folded a ∷ conditions) number h = let below = place_below conditions number h in omega arith

-- at its place stands a condition that binds it
pub binder : (conditions : List Condition) (number : ℕ) → number < bindings conditions
    → (pattern : Pattern) × (slice_get conditions (place_of conditions number) ≡ Some (Plain pattern)) × (bindings (take (place_of conditions number) conditions) ≡ number)
binder [] number h = absurd (omega arith)
binder (Plain pattern ∷ conditions) zero h = (pattern, refl, refl)
binder (Plain pattern ∷ conditions) (suc number) h = let b = binder conditions number (omega arith) in (b.0, b.1, ap suc b.2)
binder (Negated pattern ∷ conditions) number h = let b = binder conditions number h in (b.0, b.1, b.2)
binder (Existing pattern ∷ conditions) number h = let b = binder conditions number h in (b.0, b.1, b.2)
binder (Folded a ∷ conditions) number h = let b = binder conditions number h in (b.0, b.1, b.2)

-- a condition that binds a fact stands at the place of its number
pub own_place : (conditions : List Condition) (place : ℕ) (pattern : Pattern) → slice_get conditions place ≡ Some (Plain pattern)
    → place_of conditions (bindings (take place conditions)) ≡ place
own_place [] place pattern h = cc
own_place (c ∷ conditions) zero pattern h = first_place c conditions pattern h
  where
    first_place : (c : Condition) (conditions : List Condition) (pattern : Pattern) → Some c ≡ Some (Plain pattern) → place_of (c ∷ conditions) 0 ≡ 0
    first_place (Plain other) conditions pattern h = refl
    first_place (Negated other) conditions pattern h = cc
    first_place (Existing other) conditions pattern h = cc
    first_place (Folded a) conditions pattern h = cc
own_place (Plain other ∷ conditions) (suc place) pattern h = ap suc (own_place conditions place pattern h)
own_place (Negated other ∷ conditions) (suc place) pattern h = ap suc (own_place conditions place pattern h)
own_place (Existing other ∷ conditions) (suc place) pattern h = ap suc (own_place conditions place pattern h)
own_place (Folded a ∷ conditions) (suc place) pattern h = ap suc (own_place conditions place pattern h)

-- fewer conditions bind no more facts
pub fewer_bound : (place : ℕ) (conditions : List Condition) → bindings (take place conditions) ≤ bindings conditions
fewer_bound zero conditions = omega arith
fewer_bound (suc place) [] = omega arith
fewer_bound (suc place) (Plain pattern ∷ conditions) = let below = fewer_bound place conditions in omega arith
fewer_bound (suc place) (Negated pattern ∷ conditions) = fewer_bound place conditions
fewer_bound (suc place) (Existing pattern ∷ conditions) = fewer_bound place conditions
fewer_bound (suc place) (Folded a ∷ conditions) = fewer_bound place conditions

-- the temporal tests of a condition name facts that some condition binds
pub named_here : (conditions : List Condition) (place : ℕ) (c : Condition) → NameEarlier conditions → slice_get conditions place ≡ Some c
    → All (λ (test : TimeTest). test.fact < bindings conditions) (pattern_of c).times
named_here conditions place c named here =
    All-weaker (λ (test : TimeTest). test.fact < bindings (take place conditions)) (λ (test : TimeTest). test.fact < bindings conditions) (λ test h. below h (fewer_bound place conditions)) (pattern_of c).times (named place c here)
  where
    below : {a b n : ℕ} → n < a → a ≤ b → n < b
    below h k = omega arith
