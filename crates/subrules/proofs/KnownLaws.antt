-- What is known of a type by what is known of the one that it extends.
use Rattle.subrules.proofs.Common.{◌≡◌, ◌⊎◌, inl, inr, ◌+◌, ◌&&◌, ℕ, min, nat_lt, Bool, true, false, List, [], ◌∷◌, length, Option, Some, None, is_some}
use Rattle.subrules.proofs.Common.{slice_get, refl, sym, ap, ◌∙◌, arith, option_and_then, zero, suc, ◌++◌, map, cond, option_map, list_any, filter, flat_map}
use Rattle.subrules.proofs.Common.{WrittenType, above, ancestors, goes_on, parent_of, is_type_of_name, written_type_names, written_type_named, is_below}
use Rattle.subrules.proofs.Common.{is_other, is_subtype, number_of_fields, has_many_fields, same_Some, none-some, slice_get-map, place_of_name, AreKnown}
use Rattle.subrules.{proofs.{Common.{IsLeading, IsCount, subtype_of, subtype_at, extended_by, with_names}, KindLaws.{name_is}}, specs.Indexed.{IsIndexed}}
use Rattle.subrules.proofs.{FieldLaws.{fields_counted}, HierarchyLaws.{above_none, ends_none, ends_behind, above_behind, any_above}}

-- ---- tables

pub none_more : {A : Type 0} (known : List (Option A)) → list_any is_some known ≡ false → list_any is_some (known ++ None ∷ []) ≡ false
none_more [] e = refl
none_more (None ∷ known) e = none_more known e
none_more (Some v ∷ known) e = absurd cc

none_at : {A : Type 0} (known : List (Option A)) (k : ℕ) (v : A) → list_any is_some known ≡ false → slice_get known k ≡ Some (Some v) → ⊥
none_at [] k v e at = none-some (Some v) at
none_at (Some w ∷ known) k v e at = absurd cc
none_at (None ∷ known) zero v e at = none-some v (same_Some None (Some v) at)
none_at (None ∷ known) (suc k) v e at = none_at known k v e at

pub none_known : {A : Type 0} (Is : WrittenType → A → Type 0) (types : List WrittenType) (known : List (Option A)) → list_any is_some known ≡ false → AreKnown Is types known
none_known Is types known none k v e = absurd (none_at known k v none e)

pub noted : {A : Type 0} (Is : WrittenType → A → Type 0) (types : List WrittenType) (old new : List (Option A)) (place : ℕ) (entry : Option A) (t : WrittenType) → AreKnown Is types old
    → ((k : ℕ) (v : A) → slice_get new k ≡ Some (Some v) → (slice_get old k ≡ Some (Some v)) ⊎ ((k ≡ place) × (entry ≡ Some v)))
    → slice_get types place ≡ Some t → ((v : A) → entry ≡ Some v → Is t v) → AreKnown Is types new
noted Is types old new place entry t known writes at is k v e = elim (writes k v e) [
  | inl was ↦ known k v was
  | inr here ↦ (t, ap (slice_get types) here.0 ∙ at, is v here.1)
]

-- ---- the type at the place of what a type extends

pub above_known : {A : Type 0} (Is : WrittenType → A → Type 0) (types : List WrittenType) (known : List (Option A)) (t : WrittenType) (up : ℕ) (v : A) → AreKnown Is types known
    → slice_get types up ≡ parent_of types t → slice_get known up ≡ Some (Some v) → (u : WrittenType) × (parent_of types t ≡ Some u) × Is u v
above_known Is types known t up v right at e = let u = right up v e in (u.0, sym at ∙ u.1, u.2)

-- ---- whether a name is found upward

pub leads_alone : (types : List WrittenType) (over : List ℕ) (t : WrittenType) → parent_of types t ≡ None → list_any (is_type_of_name over) (above types t) ≡ false
leads_alone types over t up = ap (λ o. list_any (is_type_of_name over) (ancestors types (length types) o)) up ∙ ap (list_any (is_type_of_name over)) (above_none types (length types))

pub above_by_parent : (types : List WrittenType) (over : List ℕ) (t : WrittenType) (known : List (Option Bool)) (up : ℕ) (is : Bool) → AreKnown (IsLeading types over) types known
    → slice_get types up ≡ parent_of types t → slice_get known up ≡ Some (Some is) → is ≡ list_any (is_type_of_name over) (above types t)
above_by_parent types over t known up is right at e =
    let u = above_known (IsLeading types over) types known t up is right at e in u.2 ∙ sym (any_above types (is_type_of_name over) t u.0 u.1)

-- ---- the other types below one

subtype_named : (types : List WrittenType) (name other : List ℕ) (o : Option WrittenType) → written_type_named types other ≡ o
    → subtype_of types name o ≡ filter (is_subtype types name) (other ∷ [])
subtype_named types name other None e = sym (ap (λ b. cond (is_other name other && b) (other ∷ []) []) none ∙ neither (is_other name other))
  where
    none : is_below types name other ≡ false
    none =
        ap (λ o. list_any (is_type_of_name name) (ancestors types (length types) (option_and_then (parent_of types) o))) e
        ∙ ap (list_any (is_type_of_name name)) (above_none types (length types))

    neither : (b : Bool) → cond (b && false) (other ∷ []) [] ≡ []
    neither true = refl
    neither false = refl
subtype_named types name other (Some t) e =
    ap (λ (n : List ℕ). cond (is_other name n && list_any (is_type_of_name name) (above types t)) (n ∷ []) []) (name_is types other t e)
    ∙ ap (λ o. cond (is_other name other && list_any (is_type_of_name name) (ancestors types (length types) (option_and_then (parent_of types) o))) (other ∷ []) []) (sym e)

pub all_subtypes : (types : List WrittenType) (name : List ℕ) (names : List (List ℕ))
    → flat_map (subtype_at types name) (map (place_of_name (written_type_names types)) names) ≡ filter (is_subtype types name) names
all_subtypes types name [] = refl
all_subtypes types name (other ∷ names) =
    ap (λ xs. xs ++ flat_map (subtype_at types name) (map (place_of_name (written_type_names types)) names)) (subtype_named types name other (written_type_named types other) refl)
    ∙ ap (λ xs. filter (is_subtype types name) (other ∷ []) ++ xs) (all_subtypes types name names) ∙ by_test (is_subtype types name other)
  where
    by_test : (b : Bool) → cond b (other ∷ []) [] ++ filter (is_subtype types name) names ≡ cond b (other ∷ filter (is_subtype types name) names) (filter (is_subtype types name) names)
    by_test true = refl
    by_test false = refl

-- ---- what stands at a place

pub up_is : (types : List WrittenType) (parents : List (Option ℕ)) (place : ℕ) (t : WrittenType)
    → parents ≡ map (λ (t : WrittenType). option_and_then (place_of_name (written_type_names types)) t.parent) types → slice_get types place ≡ Some t
    → option_and_then (λ k. slice_get types k) (option_and_then (λ up. up) (slice_get parents place)) ≡ parent_of types t
up_is types parents place t all at =
    let place_up = λ (t : WrittenType). option_and_then (place_of_name (written_type_names types)) t.parent in
    ap (λ o. option_and_then (λ k. slice_get types k) (option_and_then (λ up. up) o)) (ap (λ xs. slice_get xs place) all ∙ slice_get-map place_up types place ∙ ap (option_map place_up) at)
    ∙ by_parent t.parent
  where
    by_parent : (o : Option (List ℕ)) → option_and_then (λ k. slice_get types k) (option_and_then (place_of_name (written_type_names types)) o) ≡ option_and_then (written_type_named types) o
    by_parent None = refl
    by_parent (Some name) = refl

-- ---- how many fields there are

pub counted_alone : (types : List WrittenType) (t : WrittenType) (own : ℕ) → parent_of types t ≡ None → own ≡ min 33 (length t.fields) → IsCount types t own
counted_alone types t own up is = record {
  ends = ap (goes_on types (length types)) up ∙ ends_none types (length types);
  counted = is ∙ let none = ap (λ o. number_of_fields (ancestors types (length types) o)) up ∙ ap number_of_fields (above_none types (length types)) in more_none (length t.fields) (number_of_fields (above types t)) none;
}
  where
    more_none : (a b : ℕ) → b ≡ 0 → min 33 a ≡ min 33 (a + b)
    more_none a b e = Prim.grind arith

pub counted_behind : (types : List WrittenType) (t : WrittenType) (known : List (Option ℕ)) (count sum : ℕ) → AreKnown (IsCount types) types known
    → (k : ℕ) × (slice_get types k ≡ parent_of types t) × (slice_get known k ≡ Some (Some count)) → sum ≡ min 33 (min 33 (length t.fields) + min 33 count) → IsCount types t sum
counted_behind types t known count sum right (k, at, e) is =
    let u = above_known (IsCount types) types known t k count right at e in
    let ends = ends_behind types t u.0 u.1 u.2.ends in record {
      ends = ends;
      counted =
          is ∙ added count (length t.fields) (length u.0.fields) (number_of_fields (above types u.0)) u.2.counted
          ∙ sym (ap (λ xs. min 33 (length t.fields + number_of_fields xs)) (above_behind types t u.0 u.1 ends));
    }
  where
    added : (count a b c : ℕ) → count ≡ min 33 (b + c) → min 33 (min 33 a + min 33 count) ≡ min 33 (a + (b + c))
    added count a b c f = Prim.grind arith

pub many_counted : (types : List WrittenType) (t : WrittenType) (count : ℕ) → IsCount types t count → (is_some t.parent && nat_lt 32 count) ≡ has_many_fields types t
many_counted types t count is = ap (λ b. is_some t.parent && b) (alike count (length t.fields + number_of_fields (above types t)) is.counted ∙ sym (ap (nat_lt 32) (fields_counted t.fields (above types t))))
  where
    alike : (count n : ℕ) → count ≡ min 33 n → nat_lt 32 count ≡ nat_lt 32 n
    alike count n e = Prim.grind arith

-- ---- what is found by name, and by place

pub indexed : (types : List WrittenType) (names once : List (List ℕ)) (first : List (Option ℕ)) (over : List (List ℕ)) (parents : List (Option ℕ))
    → names ≡ written_type_names types → once ≡ with_names [] names → first ≡ map (place_of_name names) once → over ≡ flat_map (extended_by types) once
    → parents ≡ map (λ (t : WrittenType). option_and_then (place_of_name names) t.parent) types → IsIndexed types names first over parents
indexed types names once first over parents all each firsts overs ups = record {
  all = all;
  firsts = firsts ∙ ap (map (place_of_name names)) each ∙ ap (λ ns. map (place_of_name ns) (with_names [] ns)) all;
  extended_names = overs ∙ ap (flat_map (extended_by types)) (each ∙ ap (with_names []) all);
  ups = ups ∙ ap (λ ns. map (λ (t : WrittenType). option_and_then (place_of_name ns) t.parent) types) all;
}
