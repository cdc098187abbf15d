-- Rows put into a list in order, and taken out of it.
use Rattle.row_change.proofs.Common.{◌≡◌, ◌∙◌, sym, ap, refl, subst, ℕ, zero, suc, ◌+◌, ◌-◌, ◌<◌, ◌≤◌, List, [], ◌∷◌, ◌++◌, length, take, drop, get_or, Bool}
use Rattle.row_change.proofs.Common.{true, false, ◌&&◌, ◌||◌, not, Result, Ok, Err, is_ok, IfOk, IfErr, inl, inr, arith, drop-cons, eq_by_cmp, is_lt}
use Rattle.row_change.proofs.Common.{list_any_congr, row_cmp, has, same_equiv, Row, is_eq, ordering_index, ordering_reverse, list_any_at}
use Rattle.{row_change.{proofs.Common.{searchable_from_sorted, InOrder, row_total, row_exact}, specs.Gaps.{IsGap, StandsAt}}, std.proofs.Math.Bool.{or_comm}}
use Rattle.std.specs.{declared.cmp.Ordering.{Ordering, TheVariants.{Less, Equal, Greater}}, List.{AllByRecursion, IsAllAdjacentAnswer, insert, remove}}
use Rattle.std.{specs.List.Sorted.{IsStrictlySortedBy, IsBinarySearchResult, IsSearchInRange, IsNonDecreasingBy}, proofs.lemmas.Bool.{cases_lt}}
use Rattle.{std.proofs.lemmas.{List.{take-append-drop}, Map.Keys.{Less-from_sorted, sorted_from_all_adjacent}}, fx_base.proofs.Tests.{or_implied}}

-- the row is less than each of these
abbrev Below : Row → List Row → Type 0
Below row rows = AllByRecursion (λ other. row_cmp row other ≡ Less) rows

-- each of these is less than the row
abbrev Above : List Row → Row → Type 0
Above rows row = AllByRecursion (λ other. row_cmp other row ≡ Less) rows

or_grouped : (p q s : Bool) → (p || (q || s)) ≡ ((p || q) || s)
or_grouped true q s = refl
or_grouped false q s = refl

cut_of : (t e : Bool) → (e ≡ true → t ≡ false) → t ≡ ((t || e) && not e)
cut_of true true h = let x : true ≡ false = h refl in cc
cut_of true false h = refl
cut_of false true h = refl
cut_of false false h = refl

and_kept : (t e : Bool) → (e ≡ true → t ≡ false) → t ≡ (t && not e)
and_kept true true h = h refl
and_kept true false h = refl
and_kept false e h = refl

pub less_of : (o : Ordering) → is_lt o ≡ true → o ≡ Less
less_of Less h = refl
less_of Equal h = let x : false ≡ true = h in cc
less_of Greater h = let x : false ≡ true = h in cc

-- ---- no rows
pub nil_order : (rows : List Row) → rows ≡ [] → InOrder rows
unfolding IsStrictlySortedBy
nil_order [] e = tt
nil_order (x ∷ rows) e = cc

-- ---- a row between two parts
put_all : (x row : Row) (a b : List Row) → Below x (a ++ b) → row_cmp x row ≡ Less → Below x (a ++ row ∷ b)
put_all x row [] b all less = (less, all)
put_all x row (y ∷ a) b all less = (all.0, put_all x row a b all.1 less)

put_between : (row : Row) (a b : List Row) → InOrder (a ++ b) → Above a row → Below row b → InOrder (a ++ row ∷ b)
unfolding IsStrictlySortedBy
put_between row [] b order above below = (below, order)
put_between row (x ∷ a) b order above below = (put_all x row a b order.0 above.0, put_between row a b order.1 above.1 below)

cut_all : (x row : Row) (a b : List Row) → Below x (a ++ row ∷ b) → Below x (a ++ b)
cut_all x row [] b all = all.1
cut_all x row (y ∷ a) b all = (all.0, cut_all x row a b all.1)

cut_between : (row : Row) (a b : List Row) → InOrder (a ++ row ∷ b) → InOrder (a ++ b)
unfolding IsStrictlySortedBy
cut_between row [] b order = order.1
cut_between row (x ∷ a) b order = (cut_all x row a b order.0, cut_between row a b order.1)

less_at : (x row : Row) (a b : List Row) → Below x (a ++ row ∷ b) → row_cmp x row ≡ Less
less_at x row [] b all = all.0
less_at x row (y ∷ a) b all = less_at x row a b all.1

above_of : (row : Row) (a b : List Row) → InOrder (a ++ row ∷ b) → Above a row
unfolding IsStrictlySortedBy
above_of row [] b order = tt
above_of row (x ∷ a) b order = (less_at x row a b order.0, above_of row a b order.1)

below_of : (row : Row) (a b : List Row) → InOrder (a ++ row ∷ b) → Below row b
unfolding IsStrictlySortedBy
below_of row [] b order = order.0
below_of row (x ∷ a) b order = below_of row a b order.1

none_below : (row : Row) (b : List Row) → Below row b → has b row ≡ false
none_below row [] below = refl
none_below row (y ∷ b) below = ap (λ (o : Ordering). is_eq o || has b row) below.0 ∙ none_below row b below.1

-- a row between the parts stands in neither
absent : (row : Row) (a b : List Row) → Above a row → Below row b → has (a ++ b) row ≡ false
absent row [] b above below = none_below row b below
absent row (x ∷ a) b above below =
    ap (λ (t : Bool). t || has (a ++ b) row) (same_equiv.symm row x ∙ ap is_eq above.0) ∙ absent row a b above.1 below

has_put : (row r : Row) (a b : List Row) → has (a ++ row ∷ b) r ≡ (has (a ++ b) r || eq_by_cmp row_cmp row r)
has_put row r [] b = ap (λ (t : Bool). t || has b r) (same_equiv.symm r row) ∙ or_comm (eq_by_cmp row_cmp row r) (has b r)
has_put row r (x ∷ a) b =
    ap (λ (t : Bool). eq_by_cmp row_cmp r x || t) (has_put row r a b) ∙ or_grouped (eq_by_cmp row_cmp r x) (has (a ++ b) r) (eq_by_cmp row_cmp row r)

has_cut : (row r : Row) (a b : List Row) → InOrder (a ++ row ∷ b) → has (a ++ b) r ≡ (has (a ++ row ∷ b) r && not (eq_by_cmp row_cmp row r))
has_cut row r a b order =
    cut_of (has (a ++ b) r) (eq_by_cmp row_cmp row r)
    (λ e. list_any_congr same_equiv r row (a ++ b) (same_equiv.symm r row ∙ e) ∙ absent row a b (above_of row a b order) (below_of row a b order))
    ∙ ap (λ (t : Bool). t && not (eq_by_cmp row_cmp row r)) (sym (has_put row r a b))

-- a row that is there already, put in; and one that is not there, taken out
pub present : (rows : List Row) (row : Row) → has rows row ≡ true → (r : Row) → has rows r ≡ (has rows r || eq_by_cmp row_cmp row r)
present rows row e r = or_implied (has rows r) (eq_by_cmp row_cmp row r) (λ same. list_any_congr same_equiv r row rows (same_equiv.symm r row ∙ same) ∙ e)

pub missing : (rows : List Row) (row : Row) → has rows row ≡ false → (r : Row) → has rows r ≡ (has rows r && not (eq_by_cmp row_cmp row r))
missing rows row e r = and_kept (has rows r) (eq_by_cmp row_cmp row r) (λ same. list_any_congr same_equiv r row rows (same_equiv.symm r row ∙ same) ∙ e)

-- ---- what holds at each place holds of each part
all_take : (P : Row → Type 0) (rows : List Row) (i : ℕ) → i ≤ length rows → ((k : ℕ) (d : Row) → k < i → P (get_or rows k d)) → AllByRecursion P (take i rows)
all_take P rows zero le h = tt
all_take P [] (suc i) le h = absurd (omega arith)
all_take P (x ∷ rows) (suc i) le h = (h zero x (omega arith), all_take P rows i (omega arith) (λ k d lt. h (suc k) d (omega arith)))

all_drop : (P : Row → Type 0) (rows : List Row) (i : ℕ) → ((k : ℕ) (d : Row) → i ≤ k → k < length rows → P (get_or rows k d)) → AllByRecursion P (drop i rows)
all_drop P [] zero h = tt
all_drop P [] (suc i) h = tt
all_drop P (x ∷ rows) zero h = (h zero x (omega arith) (omega arith), all_drop P rows zero (λ k d le lt. h (suc k) d (omega arith) (omega arith)))
all_drop P (x ∷ rows) (suc i) h = all_drop P rows i (λ k d le lt. h (suc k) d (omega arith) (omega arith))

flipped : (row other : Row) → row_cmp other row ≡ Greater → row_cmp row other ≡ Less
flipped row other h = row_total.antisymm row other ∙ ap ordering_reverse h

-- ---- a gap
module _ (rows : List Row) (row : Row) (at : ℕ) (gap : IsGap rows row at) where
  above : Above (take at rows) row
  above = all_take (λ other. row_cmp other row ≡ Less) rows at gap.inside (λ k d lt. gap.parts.0 k d (omega arith) lt)

  below : Below row (drop at rows)
  below = all_drop (λ other. row_cmp row other ≡ Less) rows at (λ k d le lt. flipped row (get_or rows k d) (gap.parts.1 k d le lt))

  pub gap_absent : has rows row ≡ false
  gap_absent = ap (λ (all : List Row). has all row) (sym (take-append-drop at rows)) ∙ absent row (take at rows) (drop at rows) above below

  pub gap_order : InOrder rows → InOrder (insert rows at row)
  gap_order order = put_between row (take at rows) (drop at rows) (subst InOrder (sym (take-append-drop at rows)) order) above below

  pub gap_has : (r : Row) → has (insert rows at row) r ≡ (has rows r || eq_by_cmp row_cmp row r)
  gap_has r = has_put row r (take at rows) (drop at rows) ∙ ap (λ (all : List Row). has all r || eq_by_cmp row_cmp row r) (take-append-drop at rows)

-- ---- a place
module _ (rows : List Row) (row : Row) (at : ℕ) (stands : StandsAt rows row at) where
  parts : take at rows ++ row ∷ drop (suc at) rows ≡ rows
  parts =
      ap (λ (rest : List Row). take at rows ++ rest)
      (ap (λ (r : Row). r ∷ drop (suc at) rows) (sym (stands.is row)) ∙ sym (drop-cons rows at row stands.inside))
      ∙ take-append-drop at rows

  pub stands_has : has rows row ≡ true
  stands_has = list_any_at (eq_by_cmp row_cmp row) rows at row stands.inside (ap (eq_by_cmp row_cmp row) (stands.is row) ∙ same_equiv.refl row)

  pub cut_order : InOrder rows → InOrder (remove rows at)
  cut_order order = cut_between row (take at rows) (drop (suc at) rows) (subst InOrder (sym parts) order)

  pub cut_has : InOrder rows → (r : Row) → has (remove rows at) r ≡ (has rows r && not (eq_by_cmp row_cmp row r))
  cut_has order r =
      has_cut row r (take at rows) (drop (suc at) rows) (subst InOrder (sym parts) order)
      ∙ ap (λ (all : List Row). has all r && not (eq_by_cmp row_cmp row r)) parts

-- ---- a search
rising : (rows : List Row) (row : Row) → InOrder rows → IsNonDecreasingBy (λ y. ordering_index (row_cmp y row)) rows
rising rows row order =
    searchable_from_sorted row_total (λ (r : Row). r) rows row
    (λ k d low lt. ap is_lt (row_total.antisymm (get_or rows (k + 1) d) (get_or rows k d)
    ∙ ap ordering_reverse (Less-from_sorted row_cmp rows k (k + 1) d order (omega arith) lt)))

pub record IsPlace (rows : List Row) (row : Row) (r : Result ℕ ℕ) : Type 0 where
  pub found : is_ok r ≡ has rows row
  pub at : IfOk r (StandsAt rows row)
  pub gap : IfErr r (IsGap rows row)

pub searched : (rows : List Row) (row : Row) → InOrder rows → (r : Result ℕ ℕ) → IsSearchInRange r (length rows) → IsBinarySearchResult (λ y. row_cmp y row) rows r → IsPlace rows row r
searched rows row order (Ok i) inside equal =
    let s : StandsAt rows row i = record { inside = inside; is = λ d. row_exact (get_or rows i d) row (equal d) } in
    record { found = sym (stands_has rows row i s); at = s; gap = tt }
searched rows row order (Err i) inside parted =
    let g : IsGap rows row i = record { inside = inside; parts = parted (rising rows row order) } in
    record { found = sym (gap_absent rows row i g); at = tt; gap = g }

-- a row that is greater than the last goes behind it
pub above_last : (rows : List Row) (row last : Row) → InOrder rows → 0 < length rows → ((d : Row) → last ≡ get_or rows (length rows - 1) d) → row_cmp last row ≡ Less → IsGap rows row (length rows)
above_last rows row last order some is less = record {
  inside = omega arith;
  parts = (
    (λ k d low lt. elim (cases_lt k (length rows - 1)) [
      | inl before ↦ row_total.trans (get_or rows k d) last row
          (ap (row_cmp (get_or rows k d)) (is d) ∙ Less-from_sorted row_cmp rows k (length rows - 1) d order before (omega arith)) less
      | inr from ↦
          let e : k ≡ length rows - 1 = omega arith in
          ap (λ (i : ℕ). row_cmp (get_or rows i d) row) e ∙ ap (λ (r : Row). row_cmp r row) (sym (is d)) ∙ less
    ]),
    (λ k d low lt. absurd (omega arith)),
  );
}

-- rows of which each is less than the next are in order
pub rising_order : (rows : List Row) (r : Bool) → IsAllAdjacentAnswer (λ x y b. b ≡ is_lt (row_cmp x y)) rows r → r ≡ true → InOrder rows
rising_order [] r answer e = nil_order [] refl
rising_order (x ∷ rows) true answer e = sorted_from_all_adjacent row_total (x ∷ rows) x (λ k lt. less_of (row_cmp (get_or (x ∷ rows) k x) (get_or (x ∷ rows) (k + 1) x)) (sym (answer k x lt)))
rising_order (x ∷ rows) false answer e = cc
