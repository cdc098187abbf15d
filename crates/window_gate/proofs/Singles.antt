-- Rows of one version: their order is that of the versions, and a difference of versions is one of rows.
use Rattle.window_gate.proofs.Common.{◌≡◌, ◌∙◌, sym, ap, refl, subst, ℕ, ℤ, List, [], ◌∷◌, map, Bool, false, not, ◌&&◌, ◌||◌, Ordering, Less, Equal, Greater}
use Rattle.window_gate.proofs.Common.{nat_cmp, ordering_then, eq_by_cmp, is_eq, int_cmp, AllByRecursion, name_cmp, has, row_cmp, InOrder, IsBetween, Named, Row}
use Rattle.{window_gate.proofs.Common.{Delta, single, has_version}, std.specs.{Cmp.Lexicographic.{slice_cmp}, List.Sorted.{IsStrictlySortedBy}}}
use mathlib.Core.Path.{fun_ext}

-- the row of these facts and values
abbrev row_of : List Named → List ℤ → Row
row_of facts values = record { facts = facts; values = values }

-- lists of one element are compared by it
one_cmp : (a b : ℕ) → slice_cmp nat_cmp (a ∷ []) (b ∷ []) ≡ nat_cmp a b
one_cmp a b = elim (nat_cmp a b) as (λ o. ordering_then o Equal ≡ o) [ Less ↦ refl | Equal ↦ refl | Greater ↦ refl ]

-- single versions are ordered as rows as they are
pub row_cmp-single : (a b : Named) → row_cmp (single a) (single b) ≡ name_cmp a b
row_cmp-single a b =
    ap (λ o. ordering_then o (ordering_then Equal (slice_cmp nat_cmp (a.id.0 ∷ []) (b.id.0 ∷ [])))) (one_cmp a.tag.0 b.tag.0)
    ∙ ap (λ o. ordering_then (nat_cmp a.tag.0 b.tag.0) (ordering_then Equal o)) (one_cmp a.id.0 b.id.0)

-- versions in order are rows in order
less_rows : (x : Named) (xs : List Named) → AllByRecursion (λ y. name_cmp x y ≡ Less) xs → AllByRecursion (λ y. row_cmp (single x) y ≡ Less) (map single xs)
less_rows x [] less = tt
less_rows x (y ∷ xs) less = (row_cmp-single x y ∙ less.0, less_rows x xs less.1)

pub rows_in_order : (xs : List Named) → IsStrictlySortedBy name_cmp xs → InOrder (map single xs)
unfolding IsStrictlySortedBy
rows_in_order [] sorted = tt
rows_in_order (x ∷ xs) sorted = (less_rows x xs sorted.0, rows_in_order xs sorted.1)

-- ---- which rows a list of versions has

-- a row with this shape is that of a version
abbrev is_row : List Named → List ℤ → Named → Bool
is_row facts values named = eq_by_cmp row_cmp (row_of facts values) (single named)

-- no facts, or values, or more facts than one: no version's row
no_facts : (values : List ℤ) (named : Named) → is_row [] values named ≡ false
no_facts values named = refl

with_values : (t : Ordering) (i : Ordering) → is_eq (ordering_then t (ordering_then Greater i)) ≡ false
with_values Less i = refl
with_values Equal i = refl
with_values Greater i = refl

some_values : (fact : Named) (value : ℤ) (values : List ℤ) (named : Named) → is_row (fact ∷ []) (value ∷ values) named ≡ false
some_values fact value values named = with_values (slice_cmp nat_cmp (fact.tag.0 ∷ []) (named.tag.0 ∷ [])) (slice_cmp nat_cmp (fact.id.0 ∷ []) (named.id.0 ∷ []))

longer : (t : Ordering) (p : Ordering) → is_eq (ordering_then (ordering_then t Greater) p) ≡ false
longer Less p = refl
longer Equal p = refl
longer Greater p = refl

more_facts : (fact other : Named) (facts : List Named) (values : List ℤ) (named : Named) → is_row (fact ∷ other ∷ facts) values named ≡ false
more_facts fact other facts values named =
    longer (nat_cmp fact.tag.0 named.tag.0) (ordering_then (slice_cmp int_cmp values []) (slice_cmp nat_cmp (map (λ (n : Named). n.id.0) (fact ∷ other ∷ facts)) (named.id.0 ∷ [])))

-- a row that is no version's stands in no such list
none : (row : Row) (xs : List Named) → ((named : Named) → eq_by_cmp row_cmp row (single named) ≡ false) → has (map single xs) row ≡ false
none row [] e = refl
none row (x ∷ xs) e = ap (λ b. b || has (map single xs) row) (e x) ∙ none row xs e

-- a version's row stands where the version does
pub has-single : (named : Named) (xs : List Named) → has (map single xs) (single named) ≡ has_version xs named
has-single named [] = refl
has-single named (x ∷ xs) = ap (λ o. is_eq o || has (map single xs) (single named)) (row_cmp-single named x) ∙ ap (λ b. eq_by_cmp name_cmp named x || b) (has-single named xs)

-- what holds of membership of each version holds of each row
shaped : (P : (List Named → Bool) → Type 0) → P (λ xs. false) → ((named : Named) → P (λ xs. has_version xs named)) → (facts : List Named) (values : List ℤ) → P (λ xs. has (map single xs) (row_of facts values))
shaped P nowhere there [] values = subst P (sym (fun_ext (λ xs. none (row_of [] values) xs (no_facts values)))) nowhere
shaped P nowhere there (fact ∷ []) [] = subst P (sym (fun_ext (λ xs. has-single fact xs))) (there fact)
shaped P nowhere there (fact ∷ []) (value ∷ values) = subst P (sym (fun_ext (λ xs. none (row_of (fact ∷ []) (value ∷ values)) xs (some_values fact value values)))) nowhere
shaped P nowhere there (fact ∷ other ∷ facts) values = subst P (sym (fun_ext (λ xs. none (row_of (fact ∷ other ∷ facts) values) xs (more_facts fact other facts values)))) nowhere

-- a difference of versions, in order, is one of their rows
pub between_names : (old new gone come : List Named) → IsStrictlySortedBy name_cmp gone → IsStrictlySortedBy name_cmp come
    → ((named : Named) → has_version gone named ≡ (has_version old named && not (has_version new named))) → ((named : Named) → has_version come named ≡ (has_version new named && not (has_version old named)))
    → (delta : Delta) → delta.gone ≡ map single gone → delta.come ≡ map single come → IsBetween (map single old) (map single new) delta
between_names old new gone come gone_sorted come_sorted goes comes delta is_gone is_come = record {
  gone_in_order = subst InOrder (sym is_gone) (rows_in_order gone gone_sorted);
  come_in_order = subst InOrder (sym is_come) (rows_in_order come come_sorted);
  gone = λ row. ap (λ rows. has rows row) is_gone ∙ shaped (λ h. h gone ≡ (h old && not (h new))) refl goes row.facts row.values;
  come = λ row. ap (λ rows. has rows row) is_come ∙ shaped (λ h. h come ≡ (h new && not (h old))) refl comes row.facts row.values;
}
