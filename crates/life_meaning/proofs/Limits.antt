-- What a finite life says of every solution, and the solutions that tuples give.
use Rattle.life_meaning.proofs.Common.{◌≡◌, ◌⊎◌, ℕ, ℤ, pos, ◌+ℤ◌, ◌≤ℤ◌, Bool, true, false, List, [], ◌∷◌, Option, Some, None, refl, sym, ap, subst, arith, inl}
use Rattle.life_meaning.proofs.Common.{inr, slice_get, take, ints, by_lt_z, In, Fact, Times, Condition, Plain, Negated, Existing, Folded, Pattern, WindowTag}
use Rattle.life_meaning.proofs.Common.{Whole, Program, Rule, TimeTest, IsPossible, pattern_of, time_holds_with, time_holds, times_hold, Tuple, bound_by}
use Rattle.life_meaning.proofs.Common.{is_event, is_reference, bindings, binds, finite, infinite, Placed, SolvesWith, scope, IsLife, list_all, Occurrence}
use Rattle.life_meaning.proofs.Common.{bound, aside, is_test_met, MeetsTests, SolvesConditions, Limit, Below, distance, tail, Adds, of_fact, of_event, LivesFor}
use Rattle.{std.proofs.lemmas.Bool.{and_from, and_parts}, temporal_ops.specs.Edges.{edges_hold}}

-- ---- lives

-- the tail of j is finite, and no solution goes beyond the life
abbrev pub Limited : Program → List Condition → Placed → Placed → ℤ → (Occurrence → Times) → Type 0
Limited p cs i j n times = (most : ℤ) × (tail p (pattern_of j.condition) ≡ finite most) × ((distance cs i j times +ℤ most) ≤ℤ n)

event_by : (b : Bool) (p : Program) (cs : List Condition) (i j : Placed) (n : ℤ) → is_event p (pattern_of j.condition).ty.0 ≡ b → ((l : Limit) → Adds p cs i j l → Below l (finite n))
    → is_event p (pattern_of j.condition).ty.0 ≡ true
event_by true p cs i j n e under = e
event_by false p cs i j n e under = absurd (under infinite (of_fact e refl))

limited_by : (l : Limit) (p : Program) (cs : List Condition) (i j : Placed) (n : ℤ) → tail p (pattern_of j.condition) ≡ l → is_event p (pattern_of j.condition).ty.0 ≡ true
    → ((l : Limit) → Adds p cs i j l → Below l (finite n)) → (times : Occurrence → Times) → SolvesWith p cs i j times → Limited p cs i j n times
limited_by infinite p cs i j n e event under times s =
    absurd (under infinite (of_event event infinite ((times, s), λ most a. under infinite (of_event event (finite most) a (rw e refl))) refl))
limited_by (finite most) p cs i j n e event under times s = (
  most,
  e,
  by_lt_z n (distance cs i j times +ℤ most)
      (λ over. absurd (under infinite (of_event event infinite (
        (times, s),
        λ b a.
            let top : (b +ℤ most) ≤ℤ n = under (finite (b +ℤ most)) (of_event event (finite b) a (rw e refl)) in
            let least : distance cs i j times ≤ℤ b = a.bounds times s in
            omega (arith, ints),
      ) refl)))
      (λ top. top),
)

-- what the conditions of a pattern's scope that are on no reference type add is within its life
pub record Limits (p : Program) (cs : List Condition) (i : Placed) (n : ℤ) : Type 0 where
  pub events : (j : Placed) → slice_get cs j.place ≡ Some j.condition → is_reference p (pattern_of j.condition).ty.0 ≡ false → is_event p (pattern_of j.condition).ty.0 ≡ true
  pub limited : (j : Placed) → slice_get cs j.place ≡ Some j.condition → is_reference p (pattern_of j.condition).ty.0 ≡ false → (times : Occurrence → Times) → SolvesWith p cs i j times → Limited p cs i j n times

module _ (p : Program) (ty : ℕ) (n : ℤ) (rule : Rule) (i : Placed) (life : IsLife p ty (finite n)) (in_rules : In rule p.rules) (at_i : slice_get rule.conditions i.place ≡ Some i.condition)
    (of_type : (pattern_of i.condition).ty.0 ≡ ty) where
  -- the life of the pattern is within that of its type
  pub lives_below : (window : WindowTag) (l : Limit) → (pattern_of i.condition).window ≡ window → LivesFor p rule.conditions i window l → Below l (finite n)
  lives_below window l is_window lives = life.above_all l (record {
    rule = rule;
    stands = in_rules;
    i = i;
    placed = at_i;
    of_type = of_type;
    lives = subst (λ (w : WindowTag). LivesFor p rule.conditions i w l) (sym is_window) lives;
  })

  adds_below : (pattern_of i.condition).window ≡ Whole → (j : Placed) → slice_get (scope rule.conditions i) j.place ≡ Some j.condition
      → is_reference p (pattern_of j.condition).ty.0 ≡ false → (l : Limit) → Adds p (scope rule.conditions i) i j l → Below l (finite n)
  adds_below is_whole j at_j changes l adds = lives_below Whole l is_whole (record { j = j; stands = at_j; changes = changes; adds = adds })

  events_there : (pattern_of i.condition).window ≡ Whole → (j : Placed) → slice_get (scope rule.conditions i) j.place ≡ Some j.condition
      → is_reference p (pattern_of j.condition).ty.0 ≡ false → is_event p (pattern_of j.condition).ty.0 ≡ true
  events_there is_whole j at_j changes =
      event_by (is_event p (pattern_of j.condition).ty.0) p (scope rule.conditions i) i j n refl (adds_below is_whole j at_j changes)

  pub limits_of : (pattern_of i.condition).window ≡ Whole → Limits p (scope rule.conditions i) i n
  limits_of is_whole = record {
    events = events_there is_whole;
    limited = λ j at_j changes.
        limited_by (tail p (pattern_of j.condition)) p (scope rule.conditions i) i j n refl (events_there is_whole j at_j changes) (adds_below is_whole j at_j changes);
  }

-- ---- solutions

abbrev pub times_or : Option Fact → Times
times_or None = record { start = pos 0; end = pos 0 }
times_or (Some f) = f.times

-- the times of the tuple's facts, and those given for the other conditions
abbrev pub times_of : List Fact → (ℕ → Times) → Occurrence → Times
times_of facts sides (bound n) = times_or (slice_get facts n)
times_of facts sides (aside k) = sides k

met_by : (there : Option Fact) (test : TimeTest) (y : Times) → time_holds_with test.op y there ≡ true → edges_hold test.op y (times_or there) ≡ true
met_by None test y h = absurd cc
met_by (Some f) test y h = h

all_met : (tests : List TimeTest) (y : Times) (t : Tuple) (sides : ℕ → Times) → times_hold (bound_by t) y tests ≡ true → list_all (is_test_met (times_of t.facts sides) y) tests ≡ true
all_met [] y t sides h = refl
all_met (test ∷ tests) y t sides h =
    let parts = and_parts (time_holds (bound_by t) y test) (times_hold (bound_by t) y tests) h in
    and_from _ _ (met_by (slice_get t.facts test.fact) test y parts.0) (all_met tests y t sides parts.1)

meets_of : (p : Program) (q : Pattern) (t : Tuple) (y : Times) (sides : ℕ → Times) → IsPossible p q (bound_by t) y → MeetsTests p q (times_of t.facts sides) y
meets_of p q t y sides h = record { event = h.event; tests = all_met q.times y t sides h.tests }

-- the tuple has an event that is possible for the pattern of this place
abbrev pub HasBound : Program → List Condition → Tuple → ℕ → Pattern → Type 0
HasBound p cs t place q = (x : Fact) × (slice_get t.facts (bindings (take place cs)) ≡ Some x) × IsPossible p q (bound_by t) x.times

either : (k i j : ℕ) → In k (i ∷ j ∷ []) → (k ≡ i) ⊎ (k ≡ j)
either k i j (inl e) = inl e
either k i j (inr (inl e)) = inr e
either k i j (inr (inr none)) = absurd none

pub solves_of : (p : Program) (cs : List Condition) (i j : ℕ) (t : Tuple) (sides : ℕ → Times)
    → ((k : ℕ) (q : Pattern) → slice_get cs k ≡ Some (Plain q) → is_event p q.ty.0 ≡ true → HasBound p cs t k q)
    → ((k : ℕ) (c : Condition) → slice_get cs k ≡ Some c → binds c ≡ false → (k ≡ i) ⊎ (k ≡ j) → IsPossible p (pattern_of c) (bound_by t) (sides k))
    → SolvesConditions p cs (i ∷ j ∷ []) (times_of t.facts sides)
solves_of p cs i j t sides on_bound on_side k (Plain q) at_k member =
    let h = on_bound k q at_k member in
    subst (λ (y : Times). MeetsTests p q (times_of t.facts sides) y) (sym (ap times_or h.1)) (meets_of p q t h.0.times sides h.2)
solves_of p cs i j t sides on_bound on_side k (Negated q) at_k member = meets_of p q t (sides k) sides (on_side k (Negated q) at_k refl (either k i j member))
solves_of p cs i j t sides on_bound on_side k (Existing q) at_k member = meets_of p q t (sides k) sides (on_side k (Existing q) at_k refl (either k i j member))
solves_of p cs i j t sides on_bound on_side k (Folded a) at_k member = meets_of p a.pattern t (sides k) sides (on_side k (Folded a) at_k refl (either k i j member))
