-- Ranges of fields: what passes tests is within them, and what they find is found where more is put.
use Rattle.rete_net.proofs.Common.{◌≡◌, ◌∙◌, sym, ap, subst, refl, ℕ, ℤ, ◌+◌, ◌<◌, ◌≤ℤ◌, ◌==◌, ◌&&◌, ◌||◌, Bool, true, false, List, ◌∷◌, Option, Some, None}
use Rattle.rete_net.proofs.Common.{FitsSigned, w64, arith, ints, nat_tests, nat_eq, slice_get, set, Fact, is_in, is_listed, take, get_or, unbound, length}
use Rattle.rete_net.proofs.Common.{tests_hold, Lists, Pattern, is_meant, inl, inr, and_parts, Value, Int, is_found, compare_holds, compares_hold, AreWithin}
use Rattle.rete_net.{proofs.Common.{IsInRange, FieldRanges}, specs.{Bounds.{HasValue, IsWithin}, Indexes.{IsLookedUp}, Selectors.{choices_hold}}}
use Rattle.{rete_net.specs.declared.{alpha_index.AlphaIndex.{AlphaIndex}, bounds.FieldRange.{FieldRange}, ranges.Ranges.{Ranges}}, std.specs.Int.{int_max}}
use Rattle.{std.{specs.{Int.{int_min}, Prelude.{int_le}}, proofs.lemmas.List.Folds.{list_all_more}}, fx_base.proofs.Sequences.{get-set_other, get-set_same}}
use Rattle.{fx_base.specs.declared.value.Value.TheVariants.{Bool as Flag, Text}, range_index.specs.Ranges.{has_number}}
use Rattle.{range_index.specs.declared.placed.PlacedRange.{PlacedRange}, rule_model.specs.{Tests.{test_holds}, declared.test.{Compare.{Compare}, Test.{Test}}}}

-- ---- what passes tests is within

max_below : (a b n : ℤ) → a ≤ℤ n → b ≤ℤ n → int_max a b ≤ℤ n
max_below a b n low also = grind (arith, ints)

min_above : (a b n : ℤ) → n ≤ℤ a → n ≤ℤ b → n ≤ℤ int_min a b
min_above a b n high also = grind (arith, ints)

in_both : (first second both : FieldRange) → both.least ≡ int_max first.least second.least → both.most ≡ int_min first.most second.most
    → (value : Option Value) → HasValue first value → HasValue second value → HasValue both value
in_both first second both least most None one two = one
in_both first second both least most (Some (Int n)) one two = λ fits.
    (subst (λ (z : ℤ). z ≤ℤ n) (sym least) (max_below first.least second.least n (one fits).0 (two fits).0), subst (λ (z : ℤ). n ≤ℤ z) (sym most) (min_above first.most second.most n (one fits).1 (two fits).1))
in_both first second both least most (Some (Flag flag)) one two = one
in_both first second both least most (Some (Text text)) one two = one

-- in both ranges of a field, and so in what they have in common
pub within_both : (first second both : FieldRange) → first.field ≡ second.field → both.field ≡ first.field → both.least ≡ int_max first.least second.least
    → both.most ≡ int_min first.most second.most → (f : Fact) → IsWithin first f → IsWithin second f → IsWithin both f
within_both first second both same field least most f one two =
    subst (λ (i : ℕ). HasValue both (slice_get f.fields i)) (sym field)
    (in_both first second both least most (slice_get f.fields first.field) one (subst (λ (i : ℕ). HasValue second (slice_get f.fields i)) (sym same) two))

within_weaker : (range : Option FieldRange) (p q : Fact → Bool) → ((f : Fact) → q f ≡ true → p f ≡ true) → AreWithin range p → AreWithin range q
within_weaker None p q implies within = within
within_weaker (Some range) p q implies within = λ f passes. within f (implies f passes)

pub within_compares : (range : Option FieldRange) (pass : Fact → Bool) (compares : List Compare) (i : ℕ) (x : Compare) → i < length compares → x ≡ get_or compares i x
    → AreWithin range (λ f. (pass f && compares_hold unbound f (take i compares)) && compare_holds unbound f x) → AreWithin range (λ f. pass f && compares_hold unbound f (take (i + 1) compares))
within_compares range pass compares i x lt is =
    within_weaker range (λ f. (pass f && compares_hold unbound f (take i compares)) && compare_holds unbound f x) (λ f. pass f && compares_hold unbound f (take (i + 1) compares))
    (λ f. by (pass f) (compares_hold unbound f (take i compares)) (compare_holds unbound f x) (compares_hold unbound f (take (i + 1) compares))
    (list_all_more (compare_holds unbound f) compares i x lt ∙ ap (λ y. compares_hold unbound f (take i compares) && compare_holds unbound f y) (sym is)))
  where
    by : (a b c all : Bool) → all ≡ (b && c) → (a && all) ≡ true → ((a && b) && c) ≡ true
    by true b c all e h = sym e ∙ h
    by false b c all e h = h

pub within_tests : (range : Option FieldRange) (tests : List Test) (i : ℕ) (x : Test) (choices : List (List Compare)) → i < length tests → x ≡ get_or tests i x → choices ≡ x.choices
    → AreWithin range (λ f. tests_hold unbound f (take i tests) && choices_hold f choices) → AreWithin range (λ f. tests_hold unbound f (take (i + 1) tests))
within_tests range tests i x choices lt is of =
    within_weaker range (λ f. tests_hold unbound f (take i tests) && choices_hold f choices) (λ f. tests_hold unbound f (take (i + 1) tests))
    (λ f h. ap (λ all. tests_hold unbound f (take i tests) && choices_hold f all) of ∙ ap (λ y. tests_hold unbound f (take i tests) && test_holds unbound f y) is
    ∙ sym (list_all_more (test_holds unbound f) tests i x lt) ∙ h)

-- ---- what is found

pub hit_put : (k place : ℕ) (was now : Bool) (hits rest : List ℕ) → hits ≡ place ∷ rest → (was ≡ true → now ≡ true) → (place ≡ k → now ≡ true) → (was || is_in hits k) ≡ true → (now || is_in rest k) ≡ true
hit_put k place true now hits rest e kept put h = ap (λ b. b || is_in rest k) (kept refl)
hit_put k place false now hits rest e kept put h = by (nat_eq k place) refl (sym (ap (λ all. is_in all k) e) ∙ h)
  where
    later : (b c : Bool) → c ≡ true → (b || c) ≡ true
    later true c held = refl
    later false c held = held

    by : (t : Bool) → nat_eq k place ≡ t → (t || is_in rest k) ≡ true → (now || is_in rest k) ≡ true
    by true same held = ap (λ b. b || is_in rest k) (put (grind (arith, nat_tests)))
    by false other held = later now (is_in rest k) held

-- ranges of a field of the fact's type, in which it has a number, find the place
abbrev pub Finds : Lists → List FieldRanges → Fact → ℕ → Type 0
Finds lists fields f k =
    (at : ℕ) × (of : FieldRanges) × (number : ℤ) × (slice_get fields at ≡ Some of) × (is_listed lists f.ty.0 at ≡ true) × (slice_get f.fields of.field ≡ Some (Int number))
    × (FitsSigned w64 number → is_found number of.ranges k ≡ true)

-- where the ranges of one field find more, all is found that was
pub found_still : (lists : Lists) (fields : List FieldRanges) (at : ℕ) (was now : FieldRanges) → slice_get fields at ≡ Some was → now.field ≡ was.field
    → ((number : ℤ) (k : ℕ) → is_found number was.ranges k ≡ true → is_found number now.ranges k ≡ true) → (f : Fact) (k : ℕ) → Finds lists fields f k → Finds lists (set fields at now) f k
found_still lists fields at was now there field more f k (i, of, number, stands, listed, value, found) = by (i == at) refl
  where
    by : (t : Bool) → (i == at) ≡ t → Finds lists (set fields at now) f k
    by true e =
        let same : i ≡ at = grind (arith, nat_tests) in
        let one : Some of ≡ Some was = sym stands ∙ ap (slice_get fields) same ∙ there in
        let is : of ≡ was = cc in (
          i,
          now,
          number,
          ap (slice_get (set fields at now)) same ∙ get-set_same fields at now was there,
          listed,
          ap (slice_get f.fields) (field ∙ ap (λ (o : FieldRanges). o.field) (sym is)) ∙ value,
          λ fits. more number k (ap (λ (o : FieldRanges). is_found number o.ranges k) (sym is) ∙ found fits),
        )
    by false e =
        let other : i ≡ at → ⊥ = λ same. (let no : true ≡ false = grind (arith, nat_tests) in cc) in
        (i, of, number, get-set_other fields at i now other ∙ stands, listed, value, found)

-- where a range is put, it finds its place
pub found_put : (lists : Lists) (fields : List FieldRanges) (at : ℕ) (was now : FieldRanges) (range : FieldRange) (place : ℕ) (put : PlacedRange) → put ≡ record { least = range.least; most = range.most; place = place }
    → slice_get fields at ≡ Some was → now.field ≡ range.field → ((number : ℤ) (k : ℕ) → is_found number now.ranges k ≡ (is_found number was.ranges k || (has_number put number && nat_eq k put.place)))
    → (f : Fact) → is_listed lists f.ty.0 at ≡ true → IsWithin range f → Finds lists (set fields at now) f place
found_put lists fields at was now range place put is there field more f listed within = by (slice_get f.fields range.field) refl within
  where
    last : (b : Bool) (number : ℤ) → (range.least ≤ℤ number) × (number ≤ℤ range.most) → (b || ((int_le range.least number && int_le number range.most) && nat_eq place place)) ≡ true
    last true number inside = refl
    last false number (low, high) = grind (arith, ints, nat_tests)

    by : (value : Option Value) → slice_get f.fields range.field ≡ value → HasValue range value → Finds lists (set fields at now) f place
    by None e has = absurd has
    by (Some (Int number)) e has = (
      at,
      now,
      number,
      get-set_same fields at now was there,
      listed,
      ap (slice_get f.fields) field ∙ e,
      λ fits. more number place ∙ ap (λ (p : PlacedRange). is_found number was.ranges place || (has_number p number && nat_eq place p.place)) is ∙ last (is_found number was.ranges place) number (has fits),
    )
    by (Some (Flag flag)) e has = absurd has
    by (Some (Text text)) e has = absurd has

-- where ranges find what they did, all is looked up that was
pub looked_up_still : (alpha : AlphaIndex) (ranges : Ranges) → ((f : Fact) (k : ℕ) → IsInRange alpha.ranges f k → IsInRange ranges f k) → (f : Fact) (k : ℕ) → IsLookedUp alpha f k
    → IsLookedUp (record { fields = alpha.fields; mask = alpha.mask; constants = alpha.constants; ranges = ranges; others = alpha.others }) f k
looked_up_still alpha ranges still f k (inl other) = inl other
looked_up_still alpha ranges still f k (inr (inl told)) = inr (inl told)
looked_up_still alpha ranges still f k (inr (inr found)) = inr (inr (still f k found))

-- a fact that is meant is of the type, and passes the constant tests
pub meant_parts : (pattern : Pattern) (f : Fact) → is_meant pattern f ≡ true → (f.ty.0 ≡ pattern.ty.0) × (tests_hold unbound f pattern.alone ≡ true)
meant_parts pattern f meant =
    let typed = and_parts (f.ty.0 == pattern.ty.0) (f.entry.0 == pattern.entry.0 && tests_hold unbound f pattern.alone) meant in
    let same = typed.0 in
    (grind (arith, nat_tests, same), (and_parts (f.entry.0 == pattern.entry.0) (tests_hold unbound f pattern.alone) typed.1).1)
