-- What a type inherits by the type that it extends, once that has all that it inherits.
use Rattle.subrules.proofs.Common.{◌≡◌, ◌&&◌, ◌||◌, not, ℕ, Bool, true, false, cond, List, [], ◌∷◌, ◌++◌, length, map, Option, Some, None, slice_get, refl, sym}
use Rattle.subrules.proofs.Common.{ap, ◌∙◌, append_assoc, filter, bytes_eq-Decides, WrittenType, above, goes_on, parent_of, has_word, meta_word, plain_type}
use Rattle.subrules.{proofs.Common.{type_behind, is_among, bytes_eq, AreKnown, IsHeir}, specs.Expanded.{inherited_fields, inherited_metas}}
use Rattle.{subrules.proofs.{HierarchyLaws.{ends_none, ends_behind, above_behind}, KnownLaws.{above_known}}, drl_grammar.specs.declared.file.Meta.{Meta}}
use Rattle.drl_grammar.specs.declared.file.TypeTree.{TypeTree}

-- ---- fields

fields_behind : (first own : List (List ℕ × List ℕ)) (types : List WrittenType) → inherited_fields (first ++ own) types ≡ inherited_fields first types ++ own
unfolding inherited_fields
fields_behind first own [] = refl
fields_behind first own (u ∷ types) = ap (λ fields. inherited_fields fields types) (sym (append_assoc u.fields first own)) ∙ fields_behind (u.fields ++ first) own types

-- ---- annotations

abbrev is_new : List Meta → Meta → Bool
is_new metas m = not (has_word metas m)

filter_append : (p : Meta → Bool) (xs ys : List Meta) → filter p (xs ++ ys) ≡ filter p xs ++ filter p ys
filter_append p [] ys = refl
filter_append p (x ∷ xs) ys = ap (λ rest. cond (p x) (x ∷ rest) rest) (filter_append p xs ys) ∙ by_test (p x)
  where
    by_test : (b : Bool) → cond b (x ∷ filter p xs ++ filter p ys) (filter p xs ++ filter p ys) ≡ cond b (x ∷ filter p xs) (filter p xs) ++ filter p ys
    by_test true = refl
    by_test false = refl

word_append : (xs ys : List Meta) (m : Meta) → has_word (xs ++ ys) m ≡ (has_word xs m || has_word ys m)
word_append [] ys m = refl
word_append (x ∷ xs) ys m = ap (λ b. bytes_eq (meta_word m) (meta_word x) || b) (word_append xs ys m) ∙ grouped (bytes_eq (meta_word m) (meta_word x)) (has_word xs m) (has_word ys m)
  where
    grouped : (a b c : Bool) → (a || (b || c)) ≡ ((a || b) || c)
    grouped true b c = refl
    grouped false b c = refl

-- of a word that no annotation has, those with a word that none has keep all
word_kept : (own metas : List Meta) (m : Meta) → has_word own m ≡ false → has_word (filter (is_new own) metas) m ≡ has_word metas m
word_kept own [] m e = refl
word_kept own (x ∷ metas) m e = by_new (has_word own x) refl (word_kept own metas m e)
  where
    by_new : (b : Bool) → has_word own x ≡ b → has_word (filter (is_new own) metas) m ≡ has_word metas m
        → has_word (cond (not b) (x ∷ filter (is_new own) metas) (filter (is_new own) metas)) m ≡ (bytes_eq (meta_word m) (meta_word x) || has_word metas m)
    by_new false new rest = ap (λ b. bytes_eq (meta_word m) (meta_word x) || b) rest
    by_new true old rest = rest ∙ by_word (bytes_eq (meta_word m) (meta_word x)) refl
      where
        by_word : (b : Bool) → bytes_eq (meta_word m) (meta_word x) ≡ b → has_word metas m ≡ (b || has_word metas m)
        by_word false is = refl
        by_word true is = let same = (bytes_eq-Decides (meta_word m) (meta_word x)).0 is in let no : true ≡ false = sym old ∙ ap (is_among (map meta_word own)) (sym same) ∙ e in absurd cc

both_new : (own metas : List Meta) (m : Meta) → is_new (own ++ filter (is_new own) metas) m ≡ (is_new metas m && is_new own m)
both_new own metas m = ap not (word_append own (filter (is_new own) metas) m) ∙ by_own (has_word own m) refl
  where
    by_own : (b : Bool) → has_word own m ≡ b → not (b || has_word (filter (is_new own) metas) m) ≡ (not (has_word metas m) && not b)
    by_own true is = no_more (not (has_word metas m))
      where
        no_more : (c : Bool) → false ≡ (c && false)
        no_more true = refl
        no_more false = refl
    by_own false is = ap not (word_kept own metas m is) ∙ all (not (has_word metas m))
      where
        all : (c : Bool) → c ≡ (c && true)
        all true = refl
        all false = refl

filter_twice : (own metas others : List Meta) → filter (is_new (own ++ filter (is_new own) metas)) others ≡ filter (is_new own) (filter (is_new metas) others)
filter_twice own metas [] = refl
filter_twice own metas (x ∷ others) =
    ap (λ b. cond b (x ∷ filter (is_new (own ++ filter (is_new own) metas)) others) (filter (is_new (own ++ filter (is_new own) metas)) others)) (both_new own metas x)
    ∙ ap (λ xs. cond (is_new metas x && is_new own x) (x ∷ xs) xs) (filter_twice own metas others) ∙ by_tests (is_new metas x)
  where
    by_tests : (b : Bool) → cond (b && is_new own x) (x ∷ filter (is_new own) (filter (is_new metas) others)) (filter (is_new own) (filter (is_new metas) others))
        ≡ filter (is_new own) (cond b (x ∷ filter (is_new metas) others) (filter (is_new metas) others))
    by_tests true = refl
    by_tests false = refl

metas_behind : (own metas : List Meta) (types : List WrittenType) → inherited_metas (own ++ filter (is_new own) metas) types ≡ own ++ filter (is_new own) (inherited_metas metas types)
unfolding inherited_metas
metas_behind own metas [] = refl
metas_behind own metas (u ∷ types) = ap (λ xs. inherited_metas xs types) step ∙ metas_behind own (metas ++ filter (is_new metas) u.metas) types
  where
    step : (own ++ filter (is_new own) metas) ++ filter (is_new (own ++ filter (is_new own) metas)) u.metas ≡ own ++ filter (is_new own) (metas ++ filter (is_new metas) u.metas)
    step =
        append_assoc own (filter (is_new own) metas) (filter (is_new (own ++ filter (is_new own) metas)) u.metas)
        ∙ ap (λ xs. own ++ (filter (is_new own) metas ++ xs)) (filter_twice own metas u.metas) ∙ ap (λ xs. own ++ xs) (sym (filter_append (is_new own) metas (filter (is_new metas) u.metas)))

-- ---- types

type_whole : (types : List WrittenType) (t u : WrittenType) → above types t ≡ u ∷ above types u → type_behind (plain_type types u) t ≡ plain_type types t
unfolding inherited_metas inherited_fields
type_whole types t u up =
    ap (λ metas. record { name = t.name; metas = metas; fields = inherited_fields u.fields (above types u) ++ t.fields }) (sym (metas_behind t.metas u.metas (above types u)))
    ∙ ap (λ fields. record { name = t.name; metas = inherited_metas t.metas (u ∷ above types u); fields = fields }) (sym (fields_behind u.fields t.fields (above types u)))
    ∙ ap (λ us. record { name = t.name; metas = inherited_metas t.metas us; fields = inherited_fields t.fields us }) (sym up)

pub heir_alone : (types : List WrittenType) (t : WrittenType) → parent_of types t ≡ None → IsHeir types t (plain_type types t)
heir_alone types t up = record { ends = ap (goes_on types (length types)) up ∙ ends_none types (length types); whole = refl }

pub heir_behind : (types : List WrittenType) (t : WrittenType) (known : List (Option TypeTree)) (over : TypeTree) → AreKnown (IsHeir types) types known
    → (k : ℕ) × (slice_get types k ≡ parent_of types t) × (slice_get known k ≡ Some (Some over)) → IsHeir types t (type_behind over t)
heir_behind types t known over right (k, at, e) =
    let u = above_known (IsHeir types) types known t k over right at e in
    let ends = ends_behind types t u.0 u.1 u.2.ends in
    record { ends = ends; whole = ap (λ (x : TypeTree). type_behind x t) u.2.whole ∙ type_whole types t u.0 (above_behind types t u.0 u.1 ends) }
