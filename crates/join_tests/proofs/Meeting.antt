-- The join value of a row is among those that are sought for a candidate which joins it, and the candidate's among those for the row.
use Rattle.join_tests.proofs.Common.{◌≡◌, ◌∙◌, sym, ap, refl, subst, arith, ℕ, ℤ, pos, ◌+ℤ◌, ◌≤ℤ◌, List, [], ◌∷◌, ◌++◌, map, Bool, true, false, ◌||◌, Option}
use Rattle.join_tests.proofs.Common.{Some, None, slice_get, option_map, ints, Value, same_value, equal_values, Fact, Named, Row, Compare, Test, Pattern}
use Rattle.join_tests.proofs.Common.{tuple_of, field_of, times_hold, Bindings, JoinKey, Look, version_at, versions_at, passes_given, keys_of_compares}
use Rattle.join_tests.proofs.Common.{keys_of_choices, keys_of_tests, given_or_true, row_part, candidate_part, as_one, TimeKey, point_of_times, moment_at_point}
use Rattle.join_tests.proofs.Common.{row_moment, candidate_moment, first_event, last_event, first_candidate, last_candidate, kept_under, is_value_among}
use Rattle.join_tests.proofs.Common.{bound_in, related, related_given, side_value, related_side, compare_holds, compares_hold, test_holds, tests_hold, bound_by}
use Rattle.join_tests.{proofs.Common.{key_of_side, key_of_sides, key_of_compare, in_front, earlier_value}, specs.{Joins.{joins}, Keys.{join_keys}}}
use Rattle.join_tests.{specs.{TimeKeys.{time_key}, Kept.{row_value, candidate_value, rows_sought, candidates_sought}}, proofs.Neighbours.{found_among}}
use Rattle.{join_tests.proofs.{Ranges.{Fits, fits_times}, Versions.{version_is, versions_are, row_is}}, std.specs.List.{list_any}}
use Rattle.rule_model.specs.declared.test.{RelTag.{RelTag, TheVariants.{OneOf, Equal, NotEqual, Less, LessOrEqual, Greater, GreaterOrEqual}}, Side.{Side}}
use Rattle.{rule_model.{specs.declared.test.Side.TheVariants.{Lit, Own, Of, Result}, proofs.Naming.{bound_named}}, fx_base.proofs.Tests.{and_first, and_second}}

one_of : (a : Bool) → (a || false) ≡ true → a ≡ true
one_of true e = refl
one_of false e = e

module _ (bound : Bindings) (f : Fact) where
  -- the two values of an equality are the same
  abbrev Meets : Option JoinKey → Type 0
  Meets None = Unit {0}
  Meets (Some key) = given_or_true (earlier_value bound key.side) ≡ given_or_true (slice_get f.fields key.field)

  -- those of each are
  abbrev Meet : List JoinKey → Type 0
  Meet [] = Unit {0}
  Meet (key ∷ keys) = Meets (Some key) × Meet keys

  module _ (rel : RelTag) (same : (a b : Value) → related rel a b ≡ same_value a b) where
    given_meet : (left right : Option Value) → related_given rel left right ≡ true → given_or_true right ≡ given_or_true left
    given_meet None right e = let f : false ≡ true = e in cc
    given_meet (Some a) None e = let f : false ≡ true = e in cc
    given_meet (Some a) (Some b) e = sym (equal_values a b (sym (same a b) ∙ e))

    side_meets : (field : ℕ) (side : Side) → related_side bound rel (slice_get f.fields field) (Some f) side ≡ true → Meets (key_of_side field side)
    side_meets field (Lit v) e = tt
    side_meets field (Own own) e = tt
    side_meets field (Of fact of) e = given_meet (slice_get f.fields field) (side_value bound None (Of fact of)) e
    side_meets field (Result place) e = given_meet (slice_get f.fields field) (side_value bound None (Result place)) e

    sides_meet : (field : ℕ) (sides : List Side) → list_any (related_side bound rel (slice_get f.fields field) (Some f)) sides ≡ true → Meets (key_of_sides field sides)
    sides_meet field [] e = tt
    sides_meet field (side ∷ []) e = side_meets field side (one_of _ e)
    sides_meet field (side ∷ (other ∷ sides)) e = tt

  compare_meets : (rel : RelTag) (field : ℕ) (sides : List Side) → list_any (related_side bound rel (slice_get f.fields field) (Some f)) sides ≡ true → Meets (key_of_compare rel field sides)
  compare_meets OneOf field sides e = sides_meet OneOf (λ a b. refl) field sides e
  compare_meets Equal field sides e = sides_meet Equal (λ a b. refl) field sides e
  compare_meets NotEqual field sides e = tt
  compare_meets Less field sides e = tt
  compare_meets LessOrEqual field sides e = tt
  compare_meets Greater field sides e = tt
  compare_meets GreaterOrEqual field sides e = tt

  in_front_meet : (key : Option JoinKey) (keys : List JoinKey) → Meets key → Meet keys → Meet (in_front key keys)
  in_front_meet None keys meets meet = meet
  in_front_meet (Some key) keys meets meet = (meets, meet)

  both_meet : (keys more : List JoinKey) → Meet keys → Meet more → Meet (keys ++ more)
  both_meet [] more p q = q
  both_meet (key ∷ keys) more p q = (p.0, both_meet keys more p.1 q)

  compares_meet : (cs : List Compare) → compares_hold bound f cs ≡ true → Meet (keys_of_compares cs)
  compares_meet [] e = tt
  compares_meet (c ∷ cs) e =
      in_front_meet (key_of_compare c.rel c.field c.against) (keys_of_compares cs) (compare_meets c.rel c.field c.against (and_first _ (compares_hold bound f cs) e))
      (compares_meet cs (and_second (compare_holds bound f c) _ e))

  choices_meet : (choices : List (List Compare)) → list_any (compares_hold bound f) choices ≡ true → Meet (keys_of_choices choices)
  choices_meet [] e = tt
  choices_meet (choice ∷ []) e = compares_meet choice (one_of _ e)
  choices_meet (choice ∷ (other ∷ choices)) e = tt

  tests_meet : (tests : List Test) → tests_hold bound f tests ≡ true → Meet (keys_of_tests tests)
  tests_meet [] e = tt
  tests_meet (test ∷ tests) e =
      both_meet (keys_of_choices test.choices) (keys_of_tests tests) (choices_meet test.choices (and_first _ (tests_hold bound f tests) e)) (tests_meet tests (and_second (test_holds bound f test) _ e))

parts_meet : (look : Look) (row : Row) (who : Named) (f : Fact) → look who.tag ≡ Some f → (keys : List JoinKey) → Meet (bound_in look row) f keys → map (row_part look row) keys ≡ map (candidate_part look who) keys
parts_meet look row who f is [] meet = refl
parts_meet look row who f is (key ∷ keys) meet =
    ap (λ v. v ∷ map (row_part look row) keys) (meet.0 ∙ ap (λ found. given_or_true (field_of found key.field)) (sym is))
    ∙ ap (λ values. candidate_part look who key ∷ values) (parts_meet look row who f is keys meet.1)

-- moments that fit lie between the first and the last that are sought
events_lie : (key : TimeKey) (x y : ℤ) → Fits key x y → (first_event key x ≤ℤ y) × (y ≤ℤ last_event key x) × (last_event key x ≡ (first_event key x +ℤ pos key.span))
events_lie key x y fits = (omega (arith, ints, fits.1), fits.0, omega (arith, ints))

candidates_lie : (key : TimeKey) (x y : ℤ) → Fits key x y → (first_candidate key y ≤ℤ x) × (x ≤ℤ last_candidate key y) × (last_candidate key y ≡ (first_candidate key y +ℤ pos key.span))
candidates_lie key x y fits = (omega (arith, ints, fits.0), fits.1, refl)

found_meet : (p : Pattern) (look : Look) (row : Row) (who : Named) (all : Option (List Fact)) → versions_at look row.facts ≡ all → (o : Option Fact) → version_at look who ≡ o
    → passes_given p (option_map (λ facts. tuple_of facts row.values) all) o ≡ true → map (row_part look row) (join_keys p) ≡ map (candidate_part look who) (join_keys p)
unfolding join_keys
found_meet p look row who None is o found e = let f : false ≡ true = e in cc
found_meet p look row who (Some facts) is None found e = let f : false ≡ true = e in cc
found_meet p look row who (Some facts) is (Some f) found e =
    let tuple = tuple_of facts row.values in
    let bound : bound_in look row ≡ bound_by tuple = bound_named look row tuple (row_is look row facts is) (versions_are look row.facts facts is).1 in
    let holds : tests_hold (bound_by tuple) f p.joined ≡ true = and_first _ (times_hold (bound_by tuple) f.times p.times) e in
    parts_meet look row who f (version_is look who f found).0 (keys_of_tests p.joined)
    (tests_meet (bound_in look row) f p.joined (subst (λ (b : Bindings). tests_hold b f p.joined ≡ true) (sym bound) holds))

found_fits : (p : Pattern) (look : Look) (row : Row) (who : Named) (key : TimeKey) → time_key p ≡ Some key → (all : Option (List Fact)) → versions_at look row.facts ≡ all
    → (o : Option Fact) → version_at look who ≡ o → passes_given p (option_map (λ facts. tuple_of facts row.values) all) o ≡ true
    → Fits key (candidate_moment key look who) (row_moment key look row)
unfolding time_key
found_fits p look row who key timed None is o found e = let f : false ≡ true = e in cc
found_fits p look row who key timed (Some facts) is None found e = let f : false ≡ true = e in cc
found_fits p look row who key timed (Some facts) is (Some f) found e =
    let tuple = tuple_of facts row.values in
    let bound : bound_in look row ≡ bound_by tuple = bound_named look row tuple (row_is look row facts is) (versions_are look row.facts facts is).1 in
    let holds : times_hold (bound_by tuple) f.times p.times ≡ true = and_second (tests_hold (bound_by tuple) f p.joined) _ e in
    let fits = fits_times (bound_in look row) f.times key p.times (subst (λ (b : Bindings). times_hold b f.times p.times ≡ true) (sym bound) holds) timed in
    subst (λ (found : Option Fact). Fits key (moment_at_point key.own found) (row_moment key look row)) (sym (version_is look who f found).0) (
    subst (λ (found : Option Fact). Fits key (point_of_times key.own f.times) (moment_at_point key.event found)) (sym fits.1) fits.2
    )

-- the moments of a candidate and of a row that it joins fit
moments_fit : (p : Pattern) (look : Look) (row : Row) (who : Named) → joins p look row who ≡ true → (key : TimeKey) → time_key p ≡ Some key
    → Fits key (candidate_moment key look who) (row_moment key look row)
unfolding joins
moments_fit p look row who e key timed = found_fits p look row who key timed (versions_at look row.facts) refl (version_at look who) refl e

-- a candidate that joins a row has what the row has of each equality
pub each_meets : (p : Pattern) (look : Look) (row : Row) (who : Named) → joins p look row who ≡ true → map (row_part look row) (join_keys p) ≡ map (candidate_part look who) (join_keys p)
unfolding joins
each_meets p look row who e = found_meet p look row who (versions_at look row.facts) refl (version_at look who) refl e

-- and so, where there is no range of time, its join value
pub values_meet : (p : Pattern) (look : Look) (row : Row) (who : Named) → joins p look row who ≡ true → time_key p ≡ None → row_value p look row ≡ candidate_value p look who
unfolding row_value candidate_value
values_meet p look row who e timeless =
    ap (λ time. kept_under (map (row_part look row) (join_keys p)) time (λ key. row_moment key look row)) timeless
    ∙ ap as_one (each_meets p look row who e)
    ∙ ap (λ time. kept_under (map (candidate_part look who) (join_keys p)) time (λ key. candidate_moment key look who)) (sym timeless)

-- the row's value is sought for the candidate
pub row_sought : (p : Pattern) (look : Look) (row : Row) (who : Named) → joins p look row who ≡ true → is_value_among (rows_sought p look who) (row_value p look row) ≡ true
unfolding row_value rows_sought
row_sought p look row who e =
    found_among (map (row_part look row) (join_keys p)) (map (candidate_part look who) (join_keys p)) (λ key. first_event key (candidate_moment key look who))
    (λ key. last_event key (candidate_moment key look who)) (λ key. row_moment key look row) (time_key p) (each_meets p look row who e)
    (λ key timed. events_lie key (candidate_moment key look who) (row_moment key look row) (moments_fit p look row who e key timed))

-- and the candidate's for the row
pub candidate_sought : (p : Pattern) (look : Look) (row : Row) (who : Named) → joins p look row who ≡ true → is_value_among (candidates_sought p look row) (candidate_value p look who) ≡ true
unfolding candidate_value candidates_sought
candidate_sought p look row who e =
    found_among (map (candidate_part look who) (join_keys p)) (map (row_part look row) (join_keys p)) (λ key. first_candidate key (row_moment key look row))
    (λ key. last_candidate key (row_moment key look row)) (λ key. candidate_moment key look who) (time_key p) (sym (each_meets p look row who e))
    (λ key timed. candidates_lie key (candidate_moment key look who) (row_moment key look row) (moments_fit p look row who e key timed))
