-- Tests, places in lists, and temporal tests that go on holding as a tuple grows.
use Rattle.life_laws.proofs.Common.{◌≡◌, Bool, true, false, ◌&&◌, cond, List, [], ◌∷◌, ◌++◌, Option, Some, None, refl, ◌∙◌, ap, slice_get, filter, Fact, Times}
use Rattle.{life_laws.proofs.Common.{TimeTest, time_holds_with, time_holds, times_hold, Tuple, bound_by}, std.proofs.lemmas.Bool.{and_from, and_parts}}
use Rattle.fx_base.proofs.Sequences.{get-append_left}

-- ---- places

-- ---- filters

two_if : {A : Type 0} (a b : A → Bool) (c : Bool) (x : A) (xs : List A) → filter a (cond c (x ∷ xs) xs) ≡ cond (c && a x) (x ∷ filter a xs) (filter a xs)
two_if a b true x xs = refl
two_if a b false x xs = refl

-- a filter of what a filter leaves
pub two_filters : {A : Type 0} (a b : A → Bool) (xs : List A) → filter a (filter b xs) ≡ filter (λ x. b x && a x) xs
two_filters a b [] = refl
two_filters a b (x ∷ xs) = two_if a b (b x) x (filter b xs) ∙ ap (λ ys. cond (b x && a x) (x ∷ ys) ys) (two_filters a b xs)

-- ---- temporal tests

-- the facts of a tuple stand in front of those of another
abbrev pub Front : Tuple → Tuple → Type 0
Front t made = (more : List Fact) × (made.facts ≡ t.facts ++ more)

test_grows : (there : Option Fact) (t made : Tuple) (y : Times) (test : TimeTest) → Front t made → slice_get t.facts test.fact ≡ there
    → time_holds_with test.op y there ≡ true → time_holds (bound_by made) y test ≡ true
test_grows None t made y test front is h = absurd cc
test_grows (Some f) t made y test front is h =
    ap (time_holds_with test.op y) (ap (λ (fs : List Fact). slice_get fs test.fact) front.1 ∙ get-append_left t.facts front.0 test.fact f is) ∙ h

pub times_grow : (tests : List TimeTest) (y : Times) (t made : Tuple) → Front t made → times_hold (bound_by t) y tests ≡ true → times_hold (bound_by made) y tests ≡ true
times_grow [] y t made front h = refl
times_grow (test ∷ tests) y t made front h =
    let parts = and_parts (time_holds (bound_by t) y test) (times_hold (bound_by t) y tests) h in
    and_from _ _ (test_grows (slice_get t.facts test.fact) t made y test front refl parts.0) (times_grow tests y t made front parts.1)
