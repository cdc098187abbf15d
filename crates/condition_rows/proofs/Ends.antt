-- The rows of conditions with one more at the end, by the tuples of the conditions before it.
use Rattle.condition_rows.proofs.Common.{◌≡◌, sym, refl, subst, inl, inr, List, [], ◌∷◌, ◌++◌, true, false, list_any, In, Named, Row, name_equiv, name_cmp}
use Rattle.condition_rows.proofs.Common.{name_exact, Condition, Program, extended, tuples, Snapshot, Tuple, empty_tuple, row_of, in_map, of_map, in_flat_map}
use Rattle.{condition_rows.proofs.Common.{of_flat_map, has_name, rows_of, or_left, or_right}, rule_model.{specs.Rows.{rows}, proofs.Firsts.{or_split}}}
use Rattle.std.{specs.{Ordering.{eq_by_cmp}, declared.cmp.Ordering.{Ordering}}, proofs.lemmas.Map.{Views.{tells_apart}, Lookups.{CmpEqualImpliesEq}}}
use Rattle.{std.specs.Cmp.{IsEquivalence}, row_delta.specs.{Rows.{row_cmp, has}, RowOrder.{same_equiv, row_exact}}}

-- what is asked by an exact order stands in the list
module _ {K : Type 0} (R : K → K → Ordering) (laws : IsEquivalence (eq_by_cmp R)) (exact : CmpEqualImpliesEq R) where
  asked : (x : K) (xs : List K) → In x xs → list_any (eq_by_cmp R x) xs ≡ true
  asked x [] i = absurd i
  asked x (y ∷ xs) (inl e) = or_left (eq_by_cmp R x y) (list_any (eq_by_cmp R x) xs) (subst (λ z. eq_by_cmp R x z ≡ true) e (laws.refl x))
  asked x (y ∷ xs) (inr i) = or_right (eq_by_cmp R x y) (list_any (eq_by_cmp R x) xs) (asked x xs i)

  stands : (x : K) (xs : List K) → list_any (eq_by_cmp R x) xs ≡ true → In x xs
  stands x [] e = absurd (let f : false ≡ true = e in cc)
  stands x (y ∷ xs) e = elim (or_split (eq_by_cmp R x y) (list_any (eq_by_cmp R x) xs) e) [ inl h ↦ inl (tells_apart exact x y h) | inr h ↦ inr (stands x xs h) ]

pub in_has : (row : Row) (rs : List Row) → In row rs → has rs row ≡ true
in_has = asked row_cmp same_equiv row_exact

pub has_in : (row : Row) (rs : List Row) → has rs row ≡ true → In row rs
has_in = stands row_cmp same_equiv row_exact

pub in_name : (who : Named) (names : List Named) → In who names → has_name names who ≡ true
in_name = asked name_cmp name_equiv name_exact

pub name_in : (who : Named) (names : List Named) → has_name names who ≡ true → In who names
name_in = stands name_cmp name_equiv name_exact

module _ (p : Program) (s : Snapshot) where
  -- a tuple that conditions make of nothing
  abbrev pub IsMade : List Condition → Tuple → Type 0
  IsMade cs t = In t (tuples p s cs empty_tuple)

  abbrev pub HasTuple : List Condition → Row → Type 0
  HasTuple cs row = (t : Tuple) × IsMade cs t × (row_of t ≡ row)

  pub tuple_of_row : (cs : List Condition) (row : Row) → rows_of p s cs row ≡ true → HasTuple cs row
  unfolding rows
  tuple_of_row cs row e = of_map row_of row (tuples p s cs empty_tuple) (has_in row (rows p s cs) e)

  pub row_of_tuple : (cs : List Condition) (row : Row) → HasTuple cs row → rows_of p s cs row ≡ true
  unfolding rows
  row_of_tuple cs row h = in_has row (rows p s cs) (subst (λ (r : Row). In r (rows p s cs)) h.2 (in_map row_of h.0 (tuples p s cs empty_tuple) h.1))

  module _ (c : Condition) where
    -- what the last condition makes, and of which tuple
    pub split_end : (front : List Condition) (t made : Tuple) → In made (tuples p s (front ++ c ∷ []) t) → (next : Tuple) × In next (tuples p s front t) × In made (extended p s c next)
    split_end [] t made i = (t, inl refl, own (of_flat_map (tuples p s []) made (extended p s c t) i))
      where
        own : (next : Tuple) × In next (extended p s c t) × In made (tuples p s [] next) → In made (extended p s c t)
        own q = elim q.2 [ inl e ↦ subst (λ (u : Tuple). In u (extended p s c t)) (sym e) q.1 | inr none ↦ absurd none ]
    split_end (b ∷ front) t made i =
        let r = of_flat_map (tuples p s (front ++ c ∷ [])) made (extended p s b t) i in
        let q = split_end front r.0 made r.2 in
        (q.0, in_flat_map (tuples p s front) r.0 q.0 (extended p s b t) r.1 q.1, q.2)

    pub with_end : (front : List Condition) (t next made : Tuple) → In next (tuples p s front t) → In made (extended p s c next) → In made (tuples p s (front ++ c ∷ []) t)
    with_end [] t next made (inl e) j = in_flat_map (tuples p s []) made made (extended p s c t) (subst (λ (u : Tuple). In made (extended p s c u)) e j) (inl refl)
    with_end [] t next made (inr none) j = absurd none
    with_end (b ∷ front) t next made i j =
        let r = of_flat_map (tuples p s front) next (extended p s b t) i in
        in_flat_map (tuples p s (front ++ c ∷ [])) r.0 made (extended p s b t) r.1 (with_end front r.0 next made r.2 j)
