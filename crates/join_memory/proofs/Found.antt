-- What joins a row or a candidate is found under the join values that are sought for it.
use Rattle.join_memory.proofs.Common.{◌≡◌, ◌∙◌, sym, ap, refl, subst, List, [], ◌∷◌, Bool, true, false, ◌&&◌, ◌||◌, Some, None, is_some, Ordering, eq_by_cmp}
use Rattle.join_memory.proofs.Common.{Value, same_value, equal_values, Named, Row, row_cmp, name_cmp, Pattern, JoinIndex, bucket_at, at, Look, joins, row_value}
use Rattle.join_memory.proofs.Common.{candidate_value, row_kept, unjoined, row_joins, name_joins, stands_in, rows_sought, candidates_sought, is_value_among}
use Rattle.join_memory.{proofs.{Common.{name_kept}, Joining.{row_decides, name_decides, splits_alike, splits_or}}, specs.Joined.{joined}}
use Rattle.{std.{proofs.Math.Bool.{and-false, or-false}, specs.List.Sorted.{IsStrictlySortedBy}}, join_tests.proofs.Meeting.{row_sought, candidate_sought}}

or_same : (a : Bool) → (a || a) ≡ a
or_same true = refl
or_same false = refl

-- one value: h is whether something is kept, a whether it stands under the value, j whether it joins

alone : (a h j : Bool) → (j ≡ true → a ≡ h) → (a && (j && true)) ≡ (h && j)
alone a h true is = ap (λ x. x && true) (is refl)
alone a h false is = and-false a ∙ sym (and-false h)

alone_left : (a h x j : Bool) → (x ≡ true → j ≡ true → a ≡ h) → (a && (x && (j && true))) ≡ (h && (x && j))
alone_left a h true j is = alone a h j (is refl)
alone_left a h false j is = and-false a ∙ sym (and-false h)

alone_right : (x a h j : Bool) → (x ≡ true → j ≡ true → a ≡ h) → (x && (a && (j && true))) ≡ (x && (h && j))
alone_right true a h j is = alone a h j (is refl)
alone_right false a h j is = refl

-- two values: a and b are whether it stands under the one and the other, p and q whether they are its join value

both : (a b h j p q : Bool) → (p ≡ true → a ≡ h) → (q ≡ true → b ≡ h) → (j ≡ true → (p || (q || false)) ≡ true) → ((a && (j && p)) || (b && (j && q))) ≡ (h && j)
both a b h false p q first second some = ap (λ x. x || (b && false)) (and-false a) ∙ and-false b ∙ sym (and-false h)
both a b h true true true first second some = ap (λ x. (x && true) || (b && true)) (first refl) ∙ ap (λ x. (h && true) || (x && true)) (second refl) ∙ or_same (h && true)
both a b h true true false first second some = ap (λ x. (a && true) || x) (and-false b) ∙ or-false (a && true) ∙ ap (λ x. x && true) (first refl)
both a b h true false true first second some = ap (λ x. x || (b && true)) (and-false a) ∙ ap (λ x. x && true) (second refl)
both a b h true false false first second some = let f : false ≡ true = some refl in cc

both_left : (a b h x j p q : Bool) → (p ≡ true → a ≡ h) → (q ≡ true → b ≡ h) → (x ≡ true → j ≡ true → (p || (q || false)) ≡ true)
    → ((a && (x && (j && p))) || (b && (x && (j && q)))) ≡ (h && (x && j))
both_left a b h true j p q first second some = both a b h j p q first second (some refl)
both_left a b h false j p q first second some = ap (λ x. x || (b && false)) (and-false a) ∙ and-false b ∙ sym (and-false h)

both_right : (x a b h j p q : Bool) → (p ≡ true → a ≡ h) → (q ≡ true → b ≡ h) → (x ≡ true → j ≡ true → (p || (q || false)) ≡ true)
    → ((x && (a && (j && p))) || (x && (b && (j && q)))) ≡ (x && (h && j))
both_right true a b h j p q first second some = both a b h j p q first second (some refl)
both_right false a b h j p q first second some = refl

-- ---- the left rows that a candidate joins

module _ {S : Type 0} (p : Pattern) (left : JoinIndex Value Row S) (look : Look) where
  -- a row stands under its join value where it is kept
  row_here : (v : Value) (l : Row) → same_value (row_value p look l) v ≡ true → stands_in row_cmp (bucket_at same_value left v) l ≡ row_kept p left look l
  row_here v l e = ap (λ w. is_some (at same_value row_cmp left w l)) (sym (equal_values (row_value p look l) v e))

  module _ (who : Named) where
    among_rows : (values : List Value) → rows_sought p look who ≡ values → (l : Row) → joins p look l who ≡ true → is_value_among values (row_value p look l) ≡ true
    among_rows values is l e = subst (λ vs. is_value_among vs (row_value p look l) ≡ true) is (row_sought p look l who e)

    -- for the version that is compared with the candidate
    joins_who : (l : Row) (c : Named) → eq_by_cmp name_cmp who c ≡ true → joins p look l c ≡ true → joins p look l who ≡ true
    joins_who l c x e = ap (joins p look l) ((name_decides who c).0 x) ∙ e

    module _ (v : Value) (is : rows_sought p look who ≡ v ∷ []) where
      row_in : (l : Row) → joins p look l who ≡ true → stands_in row_cmp (bucket_at same_value left v) l ≡ row_kept p left look l
      row_in l e = row_here v l (sym (or-false (same_value (row_value p look l) v)) ∙ among_rows (v ∷ []) is l e)

      pub rows_alone : (r : Row) → joined (row_joins p look None) (stands_in row_cmp (bucket_at same_value left v)) (eq_by_cmp name_cmp who) r
          ≡ joined (joins p look) (row_kept p left look) (eq_by_cmp name_cmp who) r
      unfolding joined
      rows_alone r =
          splits_alike _ _ (λ l c. alone_left (stands_in row_cmp (bucket_at same_value left v) l) (row_kept p left look l) (eq_by_cmp name_cmp who c) (joins p look l c)
          (λ x e. row_in l (joins_who l c x e))) (unjoined r)

      pub partners_alone : (l : Row) → (stands_in row_cmp (bucket_at same_value left v) l && row_joins p look None l who) ≡ (row_kept p left look l && joins p look l who)
      partners_alone l = alone (stands_in row_cmp (bucket_at same_value left v) l) (row_kept p left look l) (joins p look l who) (row_in l)

    module _ (v w : Value) (is : rows_sought p look who ≡ v ∷ w ∷ []) where
      pub rows_both : (r : Row) → (joined (row_joins p look (Some v)) (stands_in row_cmp (bucket_at same_value left v)) (eq_by_cmp name_cmp who) r
          || joined (row_joins p look (Some w)) (stands_in row_cmp (bucket_at same_value left w)) (eq_by_cmp name_cmp who) r)
          ≡ joined (joins p look) (row_kept p left look) (eq_by_cmp name_cmp who) r
      unfolding joined
      rows_both r =
          sym (splits_or _ _ (unjoined r))
          ∙ splits_alike _ _ (λ l c. both_left (stands_in row_cmp (bucket_at same_value left v) l) (stands_in row_cmp (bucket_at same_value left w) l) (row_kept p left look l) (eq_by_cmp name_cmp who c)
          (joins p look l c) (same_value (row_value p look l) v) (same_value (row_value p look l) w) (row_here v l) (row_here w l)
          (λ x e. among_rows (v ∷ w ∷ []) is l (joins_who l c x e))) (unjoined r)

      pub partners_both : (l : Row) → ((stands_in row_cmp (bucket_at same_value left v) l && row_joins p look (Some v) l who)
          || (stands_in row_cmp (bucket_at same_value left w) l && row_joins p look (Some w) l who)) ≡ (row_kept p left look l && joins p look l who)
      partners_both l =
          both (stands_in row_cmp (bucket_at same_value left v) l) (stands_in row_cmp (bucket_at same_value left w) l) (row_kept p left look l) (joins p look l who)
          (same_value (row_value p look l) v) (same_value (row_value p look l) w) (row_here v l) (row_here w l) (among_rows (v ∷ w ∷ []) is l)

-- ---- the candidates that join a row

module _ (p : Pattern) (right : JoinIndex Value Named (Unit {0})) (look : Look) where
  -- a candidate stands under its join value where it is kept
  name_here : (v : Value) (c : Named) → same_value (candidate_value p look c) v ≡ true → stands_in name_cmp (bucket_at same_value right v) c ≡ name_kept p right look c
  name_here v c e = ap (λ w. is_some (at same_value name_cmp right w c)) (sym (equal_values (candidate_value p look c) v e))

  module _ (row : Row) where
    among_names : (values : List Value) → candidates_sought p look row ≡ values → (c : Named) → joins p look row c ≡ true → is_value_among values (candidate_value p look c) ≡ true
    among_names values is c e = subst (λ vs. is_value_among vs (candidate_value p look c) ≡ true) is (candidate_sought p look row c e)

    joins_row : (l : Row) (c : Named) → eq_by_cmp row_cmp row l ≡ true → joins p look l c ≡ true → joins p look row c ≡ true
    joins_row l c x e = ap (λ r. joins p look r c) ((row_decides row l).0 x) ∙ e

    module _ (v : Value) (is : candidates_sought p look row ≡ v ∷ []) where
      name_in : (c : Named) → joins p look row c ≡ true → stands_in name_cmp (bucket_at same_value right v) c ≡ name_kept p right look c
      name_in c e = name_here v c (sym (or-false (same_value (candidate_value p look c) v)) ∙ among_names (v ∷ []) is c e)

      pub names_alone : (r : Row) → joined (name_joins p look None) (eq_by_cmp row_cmp row) (stands_in name_cmp (bucket_at same_value right v)) r
          ≡ joined (joins p look) (eq_by_cmp row_cmp row) (name_kept p right look) r
      unfolding joined
      names_alone r =
          splits_alike _ _ (λ l c. alone_right (eq_by_cmp row_cmp row l) (stands_in name_cmp (bucket_at same_value right v) c) (name_kept p right look c) (joins p look l c)
          (λ x e. name_in c (joins_row l c x e))) (unjoined r)

      pub passing_alone : (c : Named) → (stands_in name_cmp (bucket_at same_value right v) c && name_joins p look None row c) ≡ (name_kept p right look c && joins p look row c)
      passing_alone c = alone (stands_in name_cmp (bucket_at same_value right v) c) (name_kept p right look c) (joins p look row c) (name_in c)

    module _ (v w : Value) (is : candidates_sought p look row ≡ v ∷ w ∷ []) where
      pub names_both : (r : Row) → (joined (name_joins p look (Some v)) (eq_by_cmp row_cmp row) (stands_in name_cmp (bucket_at same_value right v)) r
          || joined (name_joins p look (Some w)) (eq_by_cmp row_cmp row) (stands_in name_cmp (bucket_at same_value right w)) r)
          ≡ joined (joins p look) (eq_by_cmp row_cmp row) (name_kept p right look) r
      unfolding joined
      names_both r =
          sym (splits_or _ _ (unjoined r))
          ∙ splits_alike _ _ (λ l c. both_right (eq_by_cmp row_cmp row l) (stands_in name_cmp (bucket_at same_value right v) c) (stands_in name_cmp (bucket_at same_value right w) c) (name_kept p right look c)
          (joins p look l c) (same_value (candidate_value p look c) v) (same_value (candidate_value p look c) w) (name_here v c) (name_here w c)
          (λ x e. among_names (v ∷ w ∷ []) is c (joins_row l c x e))) (unjoined r)

      pub passing_both : (c : Named) → ((stands_in name_cmp (bucket_at same_value right v) c && name_joins p look (Some v) row c)
          || (stands_in name_cmp (bucket_at same_value right w) c && name_joins p look (Some w) row c)) ≡ (name_kept p right look c && joins p look row c)
      passing_both c =
          both (stands_in name_cmp (bucket_at same_value right v) c) (stands_in name_cmp (bucket_at same_value right w) c) (name_kept p right look c) (joins p look row c)
          (same_value (candidate_value p look c) v) (same_value (candidate_value p look c) w) (name_here v c) (name_here w c) (among_names (v ∷ w ∷ []) is c)

pub nothing_sorted : {K : Type 0} (c : K → K → Ordering) (xs : List K) → xs ≡ [] → IsStrictlySortedBy c xs
unfolding IsStrictlySortedBy
nothing_sorted c xs e = subst (IsStrictlySortedBy c) (sym e) tt
