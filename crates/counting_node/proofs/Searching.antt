-- Which extra a search finds, and the extras that are listed of rows.
use Rattle.counting_node.proofs.Common.{◌≡◌, ◌∙◌, sym, ap, refl, subst, ⊎_elim, ℕ, zero, suc, add-one, ◌<◌, length, get_or, arith, nat_lt, is_lt, List, [], ◌∷◌}
use Rattle.counting_node.proofs.Common.{◌++◌, Bool, true, false, cond, ◌||◌, Option, Some, None, Less, Equal, Greater, AllByRecursion, AllWithin, cons_option}
use Rattle.counting_node.proofs.Common.{eq_by_cmp, is_eq, ordering_index, ordering_reverse, RuleId, Extra, Row, has, row_cmp, InOrder, same_equiv, row_total}
use Rattle.counting_node.proofs.Common.{row_exact, row_decides, extra_for, rows_of_extras, IsExtraBesideRow, one_or_none, IsNonDecreasingBy, IsPartitionPoint}
use Rattle.{counting_node.proofs.Common.{IsSortedBy}, std.specs.{Prelude.{IfSome}, List.Sorted.{IsStrictlySortedBy}}}
use Rattle.{std.proofs.lemmas.List.Sorted.{searchable_from_sorted}, fx_base.specs.Lists.{In}}

-- ---- a search among extras in the order of their rows
-- an extra in a place whose row is this one is the one that is found
pub found_at : (extras : List Extra) (row : Row) (i : ℕ) (x : Extra) → InOrder (rows_of_extras extras) → i < length extras → x ≡ get_or extras i x → row_cmp x.row row ≡ Equal → Some x ≡ extra_for extras row
unfolding IsStrictlySortedBy
found_at [] row i x sorted below is same = absurd (omega arith)
found_at (e ∷ es) row zero x sorted below is same =
    ap Some is ∙ sym (ap (λ b. cond b (Some e) (extra_for es row)) (ap (λ (y : Extra). eq_by_cmp row_cmp y.row row) (sym is) ∙ ap is_eq same))
found_at (e ∷ es) row (suc i) x sorted below is same =
    let less : row_cmp e.row x.row ≡ Less = ap (λ (y : Extra). row_cmp e.row y.row) is ∙ later es i sorted.0 (omega arith) in
    let other : eq_by_cmp row_cmp e.row row ≡ false = ap is_eq (ap (row_cmp e.row) (sym (row_exact x.row row same)) ∙ less) in
    found_at es row i x sorted.1 (omega arith) is same ∙ sym (ap (λ b. cond b (Some e) (extra_for es row)) other)
  where
    later : (ys : List Extra) (k : ℕ) → AllByRecursion (λ y. row_cmp e.row y ≡ Less) (rows_of_extras ys) → k < length ys → row_cmp e.row (get_or ys k x).row ≡ Less
    later [] k all h = absurd (omega arith)
    later (y ∷ ys) zero all h = all.0
    later (y ∷ ys) (suc k) all h = later ys k all.1 (omega arith)

-- none is found where no row is this one
nowhere : (extras : List Extra) (row : Row) → ((k : ℕ) (d : Extra) → k < length extras → eq_by_cmp row_cmp (get_or extras k d).row row ≡ false) → None ≡ extra_for extras row
nowhere [] row h = refl
nowhere (e ∷ es) row h = nowhere es row (λ k d below. h (suc k) d (omega arith)) ∙ sym (ap (λ b. cond b (Some e) (extra_for es row)) (h zero e (omega arith)))

sorted_rows : (extras : List Extra) → InOrder (rows_of_extras extras) → IsSortedBy (λ (a b : Extra). is_lt (row_cmp a.row b.row)) extras
unfolding IsStrictlySortedBy
sorted_rows [] sorted k d low high = absurd (omega arith)
sorted_rows (x ∷ []) sorted k d low high = absurd (omega arith)
sorted_rows (x ∷ (y ∷ ys)) sorted zero d low high = ap is_lt (row_total.antisymm y.row x.row) ∙ ap (λ o. is_lt (ordering_reverse o)) sorted.0.0
sorted_rows (x ∷ (y ∷ ys)) sorted (suc k) d low high = simp add-one (simp add-one at (sorted_rows (y ∷ ys) sorted.1 k d (omega arith) (omega arith)))

pub not_found : (extras : List Extra) (row : Row) (i : ℕ) → InOrder (rows_of_extras extras)
    → (IsNonDecreasingBy (λ (y : Extra). ordering_index (row_cmp y.row row)) extras → IsPartitionPoint (λ (y : Extra). row_cmp y.row row ≡ Less) (λ (y : Extra). row_cmp y.row row ≡ Greater) extras i)
    → None ≡ extra_for extras row
not_found extras row i sorted parted =
    let parts = parted (searchable_from_sorted row_total (λ (y : Extra). y.row) extras row (sorted_rows extras sorted)) in
    nowhere extras row (λ k d below. by k d below parts.0 parts.1 (nat_lt k i) refl)
  where
    by : (k : ℕ) (d : Extra) → k < length extras → AllWithin (λ (y : Extra). row_cmp y.row row ≡ Less) extras 0 i → AllWithin (λ (y : Extra). row_cmp y.row row ≡ Greater) extras i (length extras)
        → (b : Bool) → nat_lt k i ≡ b → eq_by_cmp row_cmp (get_or extras k d).row row ≡ false
    by k d below low high true e = ap is_eq (low k d (omega arith) (grind arith))
    by k d below low high false e = ap is_eq (high k d (grind arith) below)

-- ---- of each row one extra, or none
abbrev pub AreListed : (Row → Option Extra → Type 0) → List Row → List Extra → Type 0
AreListed R [] extras = extras ≡ []
AreListed R (r ∷ rs) extras = (o : Option Extra) × (rest : List Extra) × R r o × (extras ≡ cons_option o rest) × AreListed R rs rest

pub listed_more : (R : Row → Option Extra → Type 0) (rows : List Row) (extras now : List Extra) (row : Row) (o : Option Extra) → AreListed R rows extras → R row o → now ≡ extras ++ one_or_none o → AreListed R (rows ++ row ∷ []) now
listed_more R [] extras now row o are is more = (o, [], is, more ∙ ap (λ (es : List Extra). es ++ one_or_none o) are ∙ alone o, refl)
  where
    alone : (p : Option Extra) → one_or_none p ≡ cons_option p []
    alone None = refl
    alone (Some e) = refl
listed_more R (r ∷ rs) extras now row o are is more =
    let rest = are.1 in (
      are.0,
      rest ++ one_or_none o,
      are.2,
      more ∙ ap (λ (es : List Extra). es ++ one_or_none o) are.3 ∙ shift are.0 rest,
      listed_more R rs rest (rest ++ one_or_none o) row o are.4 is refl,
    )
  where
    shift : (p : Option Extra) (es : List Extra) → cons_option p es ++ one_or_none o ≡ cons_option p (es ++ one_or_none o)
    shift None es = refl
    shift (Some e) es = refl

module _ (under : RuleId) (place : ℕ) (R : Row → Option Extra → Type 0) (own : (row : Row) (o : Option Extra) → R row o → IfSome o (IsExtraBesideRow under place row)) where
  -- the rows of the extras are among the rows
  pub rows_above : (least : Row) (rows : List Row) (extras : List Extra) → AreListed R rows extras → AllByRecursion (λ y. row_cmp least y ≡ Less) rows → AllByRecursion (λ y. row_cmp least y ≡ Less) (rows_of_extras extras)
  rows_above least [] extras are all = subst (λ (es : List Extra). AllByRecursion (λ y. row_cmp least y ≡ Less) (rows_of_extras es)) (sym are) tt
  rows_above least (r ∷ rs) extras are all =
      subst (λ (es : List Extra). AllByRecursion (λ y. row_cmp least y ≡ Less) (rows_of_extras es)) (sym are.3) (by are.0 (own r are.0 are.2) (rows_above least rs are.1 are.4 all.1))
    where
      by : (o : Option Extra) → IfSome o (IsExtraBesideRow under place r) → AllByRecursion (λ y. row_cmp least y ≡ Less) (rows_of_extras are.1) → AllByRecursion (λ y. row_cmp least y ≡ Less) (rows_of_extras (cons_option o are.1))
      by None w rest = rest
      by (Some e) w rest = (ap (row_cmp least) w.row ∙ all.0, rest)

  pub listed_in_order : (rows : List Row) (extras : List Extra) → AreListed R rows extras → InOrder rows → InOrder (rows_of_extras extras)
  unfolding IsStrictlySortedBy
  listed_in_order [] extras are sorted = subst (λ (es : List Extra). InOrder (rows_of_extras es)) (sym are) tt
  listed_in_order (r ∷ rs) extras are sorted =
      subst (λ (es : List Extra). InOrder (rows_of_extras es)) (sym are.3) (by are.0 (own r are.0 are.2) (listed_in_order rs are.1 are.4 sorted.1) (rows_above r rs are.1 are.4 sorted.0))
    where
      by : (o : Option Extra) → IfSome o (IsExtraBesideRow under place r) → InOrder (rows_of_extras are.1) → AllByRecursion (λ y. row_cmp r y ≡ Less) (rows_of_extras are.1) → InOrder (rows_of_extras (cons_option o are.1))
      by None w rest above = rest
      by (Some e) w rest above = (subst (λ (x : Row). AllByRecursion (λ y. row_cmp x y ≡ Less) (rows_of_extras are.1)) (sym w.row) above, rest)

  -- each is that of one of the rows
  pub listed_own : (rows : List Row) (extras : List Extra) → AreListed R rows extras → (e : Extra) → In e extras → (row : Row) × (has rows row ≡ true) × IsExtraBesideRow under place row e
  listed_own [] extras are e h = absurd (subst (λ (es : List Extra). In e es) are h)
  listed_own (r ∷ rs) extras are e h = by are.0 (own r are.0 are.2) (listed_own rs are.1 are.4 e) (subst (λ (es : List Extra). In e es) are.3 h)
    where
      or_true : (a b : Bool) → b ≡ true → (a || b) ≡ true
      or_true true b f = refl
      or_true false b f = f

      behind : (row : Row) × (has rs row ≡ true) × IsExtraBesideRow under place row e → (row : Row) × (has (r ∷ rs) row ≡ true) × IsExtraBesideRow under place row e
      behind f = (f.0, or_true (eq_by_cmp row_cmp f.0 r) (has rs f.0) f.1, f.2)

      by : (o : Option Extra) → IfSome o (IsExtraBesideRow under place r) → (In e are.1 → (row : Row) × (has rs row ≡ true) × IsExtraBesideRow under place row e) → In e (cons_option o are.1) → (row : Row) × (has (r ∷ rs) row ≡ true) × IsExtraBesideRow under place row e
      by None w rest h = behind (rest h)
      by (Some x) w rest h =
          ⊎_elim (λ (same : e ≡ x). (r, ap (λ b. b || has rs r) (same_equiv.refl r), subst (IsExtraBesideRow under place r) (sym same) w)) (λ (h : In e are.1). behind (rest h)) h

  -- no extra of rows that are all above this one
  none_above : (row : Row) (extras : List Extra) → AllByRecursion (λ y. row_cmp row y ≡ Less) (rows_of_extras extras) → extra_for extras row ≡ None
  none_above row [] all = refl
  none_above row (e ∷ es) all = ap (λ b. cond b (Some e) (extra_for es row)) (same_equiv.symm e.row row ∙ ap is_eq all.0) ∙ none_above row es all.1

  -- what is listed for a row is what is found for it
  pub listed_for : (rows : List Row) (extras : List Extra) → AreListed R rows extras → InOrder rows → (row : Row) → has rows row ≡ true → R row (extra_for extras row)
  unfolding IsStrictlySortedBy
  listed_for [] extras are sorted row h = let f : false ≡ true = h in cc
  listed_for (r ∷ rs) extras are sorted row h =
      subst (λ (es : List Extra). R row (extra_for es row)) (sym are.3) (by (eq_by_cmp row_cmp row r) refl h are.0 are.2 (own r are.0 are.2) (listed_for rs are.1 are.4 sorted.1 row) (rows_above r rs are.1 are.4 sorted.0))
    where
      by : (b : Bool) → eq_by_cmp row_cmp row r ≡ b → (b || has rs row) ≡ true → (o : Option Extra) → R r o → IfSome o (IsExtraBesideRow under place r) → (has rs row ≡ true → R row (extra_for are.1 row))
          → AllByRecursion (λ y. row_cmp r y ≡ Less) (rows_of_extras are.1) → R row (extra_for (cons_option o are.1) row)
      by true e f None is w rest above =
          let same = (row_decides row r).0 e in
          subst (λ o. R row o) (sym (none_above row are.1 (subst (λ (x : Row). AllByRecursion (λ y. row_cmp x y ≡ Less) (rows_of_extras are.1)) (sym same) above))) (subst (λ (x : Row). R x None) (sym same) is)
      by true e f (Some x) is w rest above =
          let same = (row_decides row r).0 e in
          subst (λ o. R row o) (sym (ap (λ b. cond b (Some x) (extra_for are.1 row)) (ap (λ (y : Row). eq_by_cmp row_cmp y row) w.row ∙ same_equiv.symm r row ∙ e))) (subst (λ (y : Row). R y (Some x)) (sym same) is)
      by false e f None is w rest above = rest f
      by false e f (Some x) is w rest above =
          subst (λ o. R row o) (sym (ap (λ b. cond b (Some x) (extra_for are.1 row)) (ap (λ (y : Row). eq_by_cmp row_cmp y row) w.row ∙ same_equiv.symm r row ∙ e))) (rest f)
