-- The extras under an owner, of extras in their order, and rows that are in order.
use Rattle.rete_net.proofs.Common.{◌≡◌, ◌∙◌, ◌⊎◌, ◌&&◌, ◌||◌, sym, ap, refl, inl, inr, ℕ, zero, suc, ◌+◌, ◌<◌, ◌≤◌, ◌==◌, add-one, nat_lt, is_lt, arith, cond}
use Rattle.rete_net.proofs.Common.{get_or, length, take, drop, Bool, true, false, List, [], ◌∷◌, ◌++◌, Bor, Some, slice_get, Ordering, Less, Equal, Greater}
use Rattle.rete_net.proofs.Common.{AllByRecursion, filter, find, IsNonDecreasingBy, IsPartitionPoint, IsSortedBy, eq_by_cmp, is_eq, nat_cmp, ordering_index}
use Rattle.rete_net.proofs.Common.{ordering_reverse, ordering_then, nat_tests, fun_ext, and_assoc, take_more, In, Fact, Extra, Row, row_exact, row_total}
use Rattle.rete_net.proofs.Common.{same_equiv, has, InOrder, row_cmp, has_in, in_has, extra_for, rows_of_extras, extra_cmp, extra_at, Owner, comes_before}
use Rattle.{rete_net.proofs.{Common.{is_extra_under, lent}, Counting.{sorted_at}}, std.specs.List.Sorted.{IsStrictlySortedBy}}
use Rattle.std.proofs.lemmas.List.Sorted.{searchable_from_sorted}

-- ---- a search for an owner

before_kernel : (a b c d x y : ℕ) (rest : Ordering) (under : Bool) → ordering_then (nat_cmp a b) (ordering_then (nat_cmp c d) rest) ≡ Less
    → (nat_lt b x || (b == x && (nat_lt d y || (under && d == y)))) ≡ true → (nat_lt a x || (a == x && (nat_lt c y || (under && c == y)))) ≡ true
before_kernel a b c d x y rest true less e = grind (arith, nat_tests)
before_kernel a b c d x y rest false less e = grind (arith, nat_tests)

-- what comes before one that does comes before the owner too
pub before_too : (under : Bool) (o : Owner) (e f : Extra) → extra_cmp e f ≡ Less → comes_before under o f ≡ true → comes_before under o e ≡ true
before_too under o e f = before_kernel e.rule.0 f.rule.0 e.condition f.condition o.rule.0 o.condition (row_cmp e.row f.row) under

module _ (under : Bool) (o : Owner) (extras : List Extra) (sorted : IsStrictlySortedBy extra_cmp extras) where
  abbrev pub Before : ℕ → Type 0
  Before low = (k : ℕ) (e : Extra) → slice_get extras k ≡ Some e → k < low → comes_before under o e ≡ true

  abbrev pub Behind : ℕ → Type 0
  Behind high = (k : ℕ) (e : Extra) → slice_get extras k ≡ Some e → high ≤ k → comes_before under o e ≡ false

  at_or_below : (k m : ℕ) → k < m + 1 → (b : Bool) → nat_lt k m ≡ b → (b ≡ true) ⊎ (k ≡ m)
  at_or_below k m lt true e = inl refl
  at_or_below k m lt false e = inr (grind (arith, nat_tests))

  pub all_before : (m : ℕ) (x : Extra) → slice_get extras m ≡ Some x → comes_before under o x ≡ true → Before (m + 1)
  all_before m x at is k e there lt = elim (at_or_below k m lt (nat_lt k m) refl) [
    | inl less ↦ (let low : k < m = grind (arith, nat_tests) in before_too under o e x (sorted_at extra_cmp extras sorted k m e x low there at) is)
    | inr same ↦ (let here : Some x ≡ Some e = sym at ∙ ap (slice_get extras) (sym same) ∙ there in let one : x ≡ e = cc in ap (comes_before under o) (sym one) ∙ is)
  ]

  pub all_behind : (m : ℕ) (x : Extra) → slice_get extras m ≡ Some x → comes_before under o x ≡ false → Behind m
  all_behind m x at is k e there le = elim (at_or_below m k (omega (arith, le)) (nat_lt m k) refl) [
    | inl less ↦ (let low : m < k = grind (arith, nat_tests) in by (comes_before under o e) refl (sorted_at extra_cmp extras sorted m k x e low at there))
    | inr same ↦ (let here : Some x ≡ Some e = sym at ∙ ap (slice_get extras) same ∙ there in let one : x ≡ e = cc in ap (comes_before under o) (sym one) ∙ is)
  ]
    where
      by : (b : Bool) → comes_before under o e ≡ b → extra_cmp x e ≡ Less → b ≡ false
      by true f less = absurd (let torn : true ≡ false = sym (before_too under o x e less f) ∙ is in cc)
      by false f less = refl

  pub parted_at : (n : ℕ) → Before n → Behind n → (k : ℕ) (e : Extra) → slice_get extras k ≡ Some e → comes_before under o e ≡ nat_lt k n
  parted_at n before behind k e there = by (nat_lt k n) refl
    where
      by : (b : Bool) → nat_lt k n ≡ b → comes_before under o e ≡ b
      by true lt = before k e there (grind (arith, nat_tests))
      by false ge = behind k e there (grind (arith, nat_tests))

-- ---- what is under an owner

under_when : (a b c d : ℕ) → (nat_lt a b || (a == b && (nat_lt c d || (false && c == d)))) ≡ true → (a == b && c == d) ≡ false
under_when a b c d e = grind (arith, nat_tests)

under_is : (a b c d : ℕ) → (nat_lt a b || (a == b && (nat_lt c d || (false && c == d)))) ≡ false → (a == b && c == d) ≡ (nat_lt a b || (a == b && (nat_lt c d || (true && c == d))))
under_is a b c d e = grind (arith, nat_tests)

sorted_drop : {A : Type 0} (c : A → A → Ordering) (n : ℕ) (xs : List A) → IsStrictlySortedBy c xs → IsStrictlySortedBy c (drop n xs)
unfolding IsStrictlySortedBy
sorted_drop c zero xs s = s
sorted_drop c (suc n) [] s = s
sorted_drop c (suc n) (x ∷ xs) s = sorted_drop c n xs s.1

get_dropped : {A : Type 0} (n : ℕ) (xs : List A) (k : ℕ) → slice_get (drop n xs) k ≡ slice_get xs (n + k)
get_dropped zero xs k = let same : k ≡ 0 + k = omega arith in ap (slice_get xs) same
get_dropped (suc n) [] k = refl
get_dropped (suc n) (x ∷ xs) k = let same : suc (n + k) ≡ suc n + k = omega arith in get_dropped n xs k ∙ ap (slice_get (x ∷ xs)) same

none_first : {A : Type 0} (test : A → Bool) (n : ℕ) (xs : List A) → ((k : ℕ) (x : A) → slice_get xs k ≡ Some x → k < n → test x ≡ false) → filter test xs ≡ filter test (drop n xs)
none_first test zero xs h = refl
none_first test (suc n) [] h = refl
none_first test (suc n) (x ∷ xs) h = ap (λ b. cond b (x ∷ filter test xs) (filter test xs)) (h 0 x refl (omega arith)) ∙ none_first test n xs (λ k y e lt. h (suc k) y e (omega (arith, lt)))

not_below : (k : ℕ) → nat_lt k 0 ≡ false
not_below k = grind (arith, nat_tests)

one_less : (k n : ℕ) → nat_lt (suc k) (suc n) ≡ nat_lt k n
one_less k n = grind (arith, nat_tests)

first_pass : {A : Type 0} (test : A → Bool) (n : ℕ) (xs : List A) → ((k : ℕ) (x : A) → slice_get xs k ≡ Some x → test x ≡ nat_lt k n) → filter test xs ≡ take n xs
first_pass test zero [] h = refl
first_pass test (suc n) [] h = refl
first_pass test zero (x ∷ xs) h =
    ap (λ b. cond b (x ∷ filter test xs) (filter test xs)) (h 0 x refl ∙ not_below 0) ∙ first_pass test zero xs (λ k y e. h (suc k) y e ∙ not_below (suc k) ∙ sym (not_below k))
first_pass test (suc n) (x ∷ xs) h =
    let first : nat_lt 0 (suc n) ≡ true = grind (arith, nat_tests) in
    ap (λ b. cond b (x ∷ filter test xs) (filter test xs)) (h 0 x refl ∙ first) ∙ ap (λ ys. x ∷ ys) (first_pass test n xs (λ k y e. h (suc k) y e ∙ one_less k n))

-- behind those before the owner the ones under it come first
pub under_found : (o : Owner) (extras : List Extra) (n m : ℕ) → ((k : ℕ) (e : Extra) → slice_get extras k ≡ Some e → comes_before false o e ≡ nat_lt k n)
    → ((k : ℕ) (e : Extra) → slice_get (drop n extras) k ≡ Some e → comes_before true o e ≡ nat_lt k m) → take m (drop n extras) ≡ filter (is_extra_under o) extras
under_found o extras n m before under =
    sym (none_first (is_extra_under o) n extras (λ k e there lt.
    let low : nat_lt k n ≡ true = grind (arith, nat_tests) in under_when e.rule.0 o.rule.0 e.condition o.condition (before k e there ∙ low))
    ∙ first_pass (is_extra_under o) m (drop n extras) (λ k e there.
    let high : nat_lt (n + k) n ≡ false = grind (arith, nat_tests) in
    under_is e.rule.0 o.rule.0 e.condition o.condition (before (n + k) e (sym (get_dropped n extras k) ∙ there) ∙ high) ∙ under k e there))

pub sorted_behind : (n : ℕ) (extras : List Extra) → IsStrictlySortedBy extra_cmp extras → IsStrictlySortedBy extra_cmp (drop n extras)
sorted_behind = sorted_drop extra_cmp

-- ---- extras under an owner by their rows

row_kernel : (a b c d x y : ℕ) (rest : Ordering) → (a == x && c == y) ≡ true → (b == x && d == y) ≡ true → ordering_then (nat_cmp a b) (ordering_then (nat_cmp c d) rest) ≡ rest
row_kernel a b c d x y rest e f = grind (arith, nat_tests)

later_rows : (o : Owner) (e : Extra) → is_extra_under o e ≡ true → (fs : List Extra) → AllByRecursion (λ f. extra_cmp e f ≡ Less) fs → AllByRecursion (λ (r : Row). row_cmp e.row r ≡ Less) (rows_of_extras (filter (is_extra_under o) fs))
later_rows o e is [] all = tt
later_rows o e is (f ∷ fs) all = here (is_extra_under o f) refl (later_rows o e is fs all.1)
  where
    here : (b : Bool) → is_extra_under o f ≡ b → AllByRecursion (λ (r : Row). row_cmp e.row r ≡ Less) (rows_of_extras (filter (is_extra_under o) fs))
        → AllByRecursion (λ (r : Row). row_cmp e.row r ≡ Less) (rows_of_extras (cond b (f ∷ filter (is_extra_under o) fs) (filter (is_extra_under o) fs)))
    here true own rest = (sym (row_kernel e.rule.0 f.rule.0 e.condition f.condition o.rule.0 o.condition (row_cmp e.row f.row) is own) ∙ all.0, rest)
    here false own rest = rest

pub rows_in_order : (o : Owner) (extras : List Extra) → IsStrictlySortedBy extra_cmp extras → InOrder (rows_of_extras (filter (is_extra_under o) extras))
unfolding IsStrictlySortedBy
rows_in_order o [] s = tt
rows_in_order o (e ∷ extras) s = by (is_extra_under o e) refl (rows_in_order o extras s.1)
  where
    by : (b : Bool) → is_extra_under o e ≡ b → InOrder (rows_of_extras (filter (is_extra_under o) extras)) → InOrder (rows_of_extras (cond b (e ∷ filter (is_extra_under o) extras) (filter (is_extra_under o) extras)))
    by true is rest = (later_rows o e is extras s.0, rest)
    by false is rest = rest

find_filter : {A : Type 0} (under test : A → Bool) (xs : List A) → find test (filter under xs) ≡ find (λ x. under x && test x) xs
find_filter under test [] = refl
find_filter under test (x ∷ xs) = by (under x) (find_filter under test xs)
  where
    by : (b : Bool) → find test (filter under xs) ≡ find (λ y. under y && test y) xs → find test (cond b (x ∷ filter under xs) (filter under xs)) ≡ cond (b && test x) (Some x) (find (λ y. under y && test y) xs)
    by true rest = ap (λ found. cond (test x) (Some x) found) rest
    by false rest = rest

-- the extra of a row is that of the owner at the row
pub extra_of_owner : (o : Owner) (extras : List Extra) (row : Row) → extra_for (filter (is_extra_under o) extras) row ≡ extra_at extras o.rule.0 o.condition row
extra_of_owner o extras row =
    find_filter (is_extra_under o) (λ (e : Extra). eq_by_cmp row_cmp e.row row) extras
    ∙ ap (λ (test : Extra → Bool). find test extras) (fun_ext (λ (e : Extra). and_assoc (e.rule.0 == o.rule.0) (e.condition == o.condition) (eq_by_cmp row_cmp e.row row)))

-- ---- rows in order

pub row_itself : (row : Row) → row_cmp row row ≡ Equal
row_itself row = by (row_cmp row row) refl
  where
    by : (c : Ordering) → row_cmp row row ≡ c → c ≡ Equal
    by Less e = absurd (let torn : false ≡ true = sym (ap is_eq e) ∙ same_equiv.refl row in cc)
    by Equal e = refl
    by Greater e = absurd (let torn : false ≡ true = sym (ap is_eq e) ∙ same_equiv.refl row in cc)

sorted_rows : (rows : List Row) → InOrder rows → IsSortedBy (λ (a b : Row). is_lt (row_cmp a b)) rows
unfolding IsStrictlySortedBy
sorted_rows [] sorted k d low high = absurd (omega arith)
sorted_rows (x ∷ []) sorted k d low high = absurd (omega arith)
sorted_rows (x ∷ (y ∷ ys)) sorted zero d low high = ap is_lt (row_total.antisymm y x) ∙ ap (λ o. is_lt (ordering_reverse o)) sorted.0.0
sorted_rows (x ∷ (y ∷ ys)) sorted (suc k) d low high = simp add-one (simp add-one at (sorted_rows (y ∷ ys) sorted.1 k d (omega arith) (omega arith)))

in_at : (rows : List Row) (k : ℕ) (row : Row) → k < length rows → get_or rows k row ≡ row → In row rows
in_at [] k row lt e = absurd (omega (arith, lt))
in_at (r ∷ rows) zero row lt e = inl (sym e)
in_at (r ∷ rows) (suc k) row lt e = inr (in_at rows k row (omega (arith, lt)) e)

place_of : (rows : List Row) (row : Row) → In row rows → (k : ℕ) × (k < length rows) × (get_or rows k row ≡ row)
place_of [] row i = absurd i
place_of (r ∷ rows) row (inl e) = (0, omega arith, sym e)
place_of (r ∷ rows) row (inr i) = let it = place_of rows row i in let lt = it.1 in (suc it.0, omega (arith, lt), it.2)

pub found_row : (rows : List Row) (row : Row) (k : ℕ) → k < length rows → row_cmp (get_or rows k row) row ≡ Equal → true ≡ has rows row
found_row rows row k lt e = sym (in_has row rows (in_at rows k row lt (row_exact (get_or rows k row) row e)))

pub missing_row : (rows : List Row) (row : Row) (k : ℕ) → InOrder rows
    → (IsNonDecreasingBy (λ (y : Row). ordering_index (row_cmp y row)) rows → IsPartitionPoint (λ (y : Row). row_cmp y row ≡ Less) (λ (y : Row). row_cmp y row ≡ Greater) rows k) → false ≡ has rows row
missing_row rows row k sorted parted = by (has rows row) refl (parted (searchable_from_sorted row_total (λ (y : Row). y) rows row (sorted_rows rows sorted)))
  where
    at : IsPartitionPoint (λ (y : Row). row_cmp y row ≡ Less) (λ (y : Row). row_cmp y row ≡ Greater) rows k → (j : ℕ) → j < length rows → get_or rows j row ≡ row → (b : Bool) → nat_lt j k ≡ b → ⊥
    at parts j lt e true low = let torn : Less ≡ Equal = sym (parts.0 j row (omega arith) (grind (arith, nat_tests))) ∙ ap (λ r. row_cmp r row) e ∙ row_itself row in let no : true ≡ false = ap is_lt torn in cc
    at parts j lt e false high = let torn : Greater ≡ Equal = sym (parts.1 j row (grind (arith, nat_tests)) lt) ∙ ap (λ r. row_cmp r row) e ∙ row_itself row in let no : false ≡ true = ap is_eq torn in cc

    by : (b : Bool) → has rows row ≡ b → IsPartitionPoint (λ (y : Row). row_cmp y row ≡ Less) (λ (y : Row). row_cmp y row ≡ Greater) rows k → false ≡ b
    by true e parts = let it = place_of rows row (has_in row rows e) in absurd (at parts it.0 it.1 it.2 (nat_lt it.0 k) refl)
    by false e parts = refl

-- ---- facts of a type

-- one more at the end of a list that a test parts
filter_behind : {A : Type 0} (test : A → Bool) (ys : List A) (x : A) → filter test (ys ++ x ∷ []) ≡ filter test ys ++ cond (test x) (x ∷ []) []
filter_behind test [] x = refl
filter_behind test (y ∷ ys) x = by (test y) (filter_behind test ys x)
  where
    by : (b : Bool) → filter test (ys ++ x ∷ []) ≡ filter test ys ++ cond (test x) (x ∷ []) []
        → cond b (y ∷ filter test (ys ++ x ∷ [])) (filter test (ys ++ x ∷ [])) ≡ cond b (y ∷ filter test ys) (filter test ys) ++ cond (test x) (x ∷ []) []
    by true rest = ap (λ zs. y ∷ zs) rest
    by false rest = rest

pub lent_more : (facts : List (Bor Fact)) (f : Bor Fact) → lent (facts ++ f ∷ []) ≡ lent facts ++ f.now ∷ []
lent_more [] f = refl
lent_more (g ∷ facts) f = ap (λ rest. g.now ∷ rest) (lent_more facts f)

pub filter_more : (test : Fact → Bool) (fs : List (Bor Fact)) (i : ℕ) (f : Bor Fact) → i < length fs → f ≡ get_or fs i f
    → filter test (lent (take (i + 1) fs)) ≡ filter test (lent (take i fs)) ++ cond (test f.now) (f.now ∷ []) []
filter_more test fs i f lt is =
    ap (λ gs. filter test (lent gs)) (take_more fs i f lt ∙ ap (λ g. take i fs ++ g ∷ []) (sym is))
    ∙ ap (filter test) (lent_more (take i fs) f) ∙ filter_behind test (lent (take i fs)) f.now
