-- A row of directories among those of a tree.
use Rattle.page_map.proofs.Common.{◌≡◌, ◌∙◌, sym, ap, subst, refl, ℕ, zero, suc, ◌+◌, ◌^◌, ◌<◌, ◌≤◌, List, [], ◌∷◌, ◌++◌, Bool, true, false, cond, Option, Some}
use Rattle.page_map.proofs.Common.{None, length, get_or, set, arith, nat_lt, option_or, Less, nat_cmp, is_at, lookup, keys_of, values_of, AllByRecursion}
use Rattle.page_map.proofs.Common.{ltb-true, ltb-false, append-nil, recursion_from_All, Directory, ArePagesApart, AreDirectories, numbered, among}
use Rattle.page_map.proofs.{Common.{AreDirectoriesApart, All-from_recursion}, Kept.{apart, together, tied, beyond, all_above}}
use Rattle.std.specs.List.Sorted.{IsStrictlySortedBy}

-- ---- look-ups

-- what stands at a number, if anything
abbrev pub stands : ℕ → List (ℕ × Directory) → Option Directory
stands number directories = lookup (is_at (nat_cmp number)) directories

pub or_none : (o : Option Directory) → option_or o None ≡ o
or_none None = refl
or_none (Some d) = refl

-- another number stands further on
over : (n m : ℕ) (d : Directory) (rest : List (ℕ × Directory)) → (n ≡ m → ⊥) → stands n ((m, d) ∷ rest) ≡ stands n rest
over n m d rest differ = ap (λ t. cond t (Some d) (stands n rest)) (apart n m differ)

here : (n m : ℕ) (d : Directory) (rest : List (ℕ × Directory)) → n ≡ m → stands n ((m, d) ∷ rest) ≡ Some d
here n m d rest same = ap (λ t. cond t (Some d) (stands n rest)) (together n m same)

stands_joined : (n : ℕ) (xs ys : List (ℕ × Directory)) → stands n (xs ++ ys) ≡ option_or (stands n xs) (stands n ys)
stands_joined n [] ys = refl
stands_joined n (x ∷ xs) ys = by (is_at (nat_cmp n) x.0) (stands_joined n xs ys)
  where
    by : (t : Bool) → stands n (xs ++ ys) ≡ option_or (stands n xs) (stands n ys)
        → cond t (Some x.1) (stands n (xs ++ ys)) ≡ option_or (cond t (Some x.1) (stands n xs)) (stands n ys)
    by true e = refl
    by false e = e

-- ---- a row

pub none_before : (n first : ℕ) (row : List Directory) → n < first → stands n (numbered first row) ≡ None
none_before n first [] l = refl
none_before n first (d ∷ row) l = over n first d (numbered (first + 1) row) (λ e. omega (arith, e, l)) ∙ none_before n (first + 1) row (omega (arith, l))

pub none_behind : (n first : ℕ) (row : List Directory) → first + length row ≤ n → stands n (numbered first row) ≡ None
none_behind n first [] l = refl
none_behind n first (d ∷ row) l = over n first d (numbered (first + 1) row) (λ e. omega (arith, e, l)) ∙ none_behind n (first + 1) row (omega (arith, l))

-- each number of a row has a directory
pub some_within : (n first : ℕ) (row : List Directory) → first ≤ n → n < first + length row → stands n (numbered first row) ≡ None → ⊥
some_within n first [] l h none = omega (arith, l, h)
some_within n first (d ∷ row) l h none = by (is_at (nat_cmp n) first) refl (λ further. some_within n (first + 1) row further (omega (arith, h)))
  where
    by : (t : Bool) → is_at (nat_cmp n) first ≡ t → (first + 1 ≤ n → stands n (numbered (first + 1) row) ≡ None → ⊥) → ⊥
    by true e rest = let torn : Some d ≡ None = sym (here n first d (numbered (first + 1) row) (tied n first e)) ∙ none in cc
    by false e rest =
        let differ : n ≡ first → ⊥ = λ same. let torn : true ≡ false = sym (together n first same) ∙ e in cc in
        rest (grind (arith, l, differ)) (sym (over n first d (numbered (first + 1) row) differ) ∙ none)

-- the directory at a place
pub stands_at : (n first i : ℕ) (row : List Directory) (d : Directory) → n ≡ first + i → i < length row → d ≡ get_or row i d → stands n (numbered first row) ≡ Some d
stands_at n first i [] d is l e = absurd (omega (arith, l))
stands_at n first zero (x ∷ row) d is l e = here n first x (numbered (first + 1) row) (omega (arith, is)) ∙ ap Some (sym e)
stands_at n first (suc i) (x ∷ row) d is l e =
    over n first x (numbered (first + 1) row) (λ same. omega (arith, is, same))
    ∙ stands_at n (first + 1) i row d (omega (arith, is)) (omega (arith, l)) e

-- a directory is written anew
pub stands_set : (n first i : ℕ) (row : List Directory) (w : Directory) → i < length row
    → stands n (numbered first (set row i w)) ≡ cond (is_at (nat_cmp (first + i)) n) (Some w) (stands n (numbered first row))
stands_set n first i [] w l = absurd (omega (arith, l))
stands_set n first zero (x ∷ row) w l = by (is_at (nat_cmp n) first) refl
  where
    by : (t : Bool) → is_at (nat_cmp n) first ≡ t
        → cond t (Some w) (stands n (numbered (first + 1) row)) ≡ cond (is_at (nat_cmp (first + 0)) n) (Some w) (cond t (Some x) (stands n (numbered (first + 1) row)))
    by true e = let same = tied n first e in ap (λ t. cond t (Some w) (Some x)) (sym (together (first + 0) n (omega (arith, same))))
    by false e =
        ap (λ t. cond t (Some w) (stands n (numbered (first + 1) row)))
        (sym (apart (first + 0) n (λ same. let torn : true ≡ false = sym (together n first (omega (arith, same))) ∙ e in cc)))
stands_set n first (suc i) (x ∷ row) w l = by (is_at (nat_cmp n) first) refl (stands_set n (first + 1) i row w (omega (arith, l)))
  where
    by : (t : Bool) → is_at (nat_cmp n) first ≡ t
        → stands n (numbered (first + 1) (set row i w)) ≡ cond (is_at (nat_cmp (first + 1 + i)) n) (Some w) (stands n (numbered (first + 1) row))
        → cond t (Some x) (stands n (numbered (first + 1) (set row i w)))
        ≡ cond (is_at (nat_cmp (first + suc i)) n) (Some w) (cond t (Some x) (stands n (numbered (first + 1) row)))
    by true e rest = let same = tied n first e in ap (λ t. cond t (Some w) (Some x)) (sym (apart (first + suc i) n (λ is. omega (arith, same, is))))
    by false e rest =
        let next : first + 1 + i ≡ first + suc i = omega arith in
        rest ∙ ap (λ m. cond (is_at (nat_cmp m) n) (Some w) (stands n (numbered (first + 1) row))) next

-- a directory comes at the end
numbered_push : (first : ℕ) (row : List Directory) (d : Directory) → numbered first (row ++ d ∷ []) ≡ numbered first row ++ (first + length row, d) ∷ []
numbered_push first [] d = ap (λ n. (n, d) ∷ []) (omega arith)
numbered_push first (x ∷ row) d =
    let next : first + 1 + length row ≡ first + suc (length row) = omega arith in
    ap (λ ds. (first, x) ∷ ds) (numbered_push (first + 1) row d ∙ ap (λ n. numbered (first + 1) row ++ (n, d) ∷ []) next)

pub stands_push : (n first : ℕ) (row : List Directory) (d : Directory) → stands n (numbered first (row ++ d ∷ [])) ≡ option_or (stands n (numbered first row)) (stands n ((first + length row, d) ∷ []))
stands_push n first row d = ap (λ ds. stands n ds) (numbered_push first row d) ∙ stands_joined n (numbered first row) ((first + length row, d) ∷ [])

-- ---- the row among the others

pub stands_among : (n first : ℕ) (row : List Directory) (tree : List (ℕ × Directory)) → stands n (among first row tree) ≡ option_or (stands n (numbered first row)) (stands n tree)
stands_among n first row [] = sym (or_none (stands n (numbered first row)))
stands_among n first row (d ∷ tree) = by (nat_lt d.0 first) refl (stands_among n first row tree)
  where
    within : (t : Bool) → is_at (nat_cmp n) d.0 ≡ t → d.0 < first → stands n (among first row tree) ≡ option_or (stands n (numbered first row)) (stands n tree)
        → cond t (Some d.1) (stands n (among first row tree)) ≡ option_or (stands n (numbered first row)) (cond t (Some d.1) (stands n tree))
    within true e l rest = let same = tied n d.0 e in ap (λ o. option_or o (Some d.1)) (sym (none_before n first row (omega (arith, same, l))))
    within false e l rest = rest

    by : (t : Bool) → nat_lt d.0 first ≡ t → stands n (among first row tree) ≡ option_or (stands n (numbered first row)) (stands n tree)
        → stands n (cond t (d ∷ among first row tree) (numbered first row ++ d ∷ tree)) ≡ option_or (stands n (numbered first row)) (stands n (d ∷ tree))
    by true e rest = within (is_at (nat_cmp n) d.0) refl (ltb-true d.0 first e) rest
    by false e rest = stands_joined n (numbered first row) (d ∷ tree)

-- a row without directories
pub none_among : (first : ℕ) (tree : List (ℕ × Directory)) → among first [] tree ≡ tree
none_among first [] = refl
none_among first (d ∷ tree) = by (nat_lt d.0 first) (none_among first tree)
  where
    by : (t : Bool) → among first [] tree ≡ tree → cond t (d ∷ among first [] tree) (d ∷ tree) ≡ d ∷ tree
    by true e = ap (λ ds. d ∷ ds) e
    by false e = refl

-- ---- numbers that strictly rise, from one on

abbrev Climbs : ℕ → List (ℕ × Directory) → Type 0
Climbs low [] = Unit {0}
Climbs low (d ∷ ds) = (low ≤ d.0) × Climbs (d.0 + 1) ds

-- each number of a row is in none of these
abbrev Apart : ℕ → List Directory → List (ℕ × Directory) → Type 0
Apart first row tree = (number : ℕ) → first ≤ number → number < first + length row → stands number tree ≡ None

apart_tail : (first : ℕ) (row : List Directory) (d : ℕ × Directory) (tree : List (ℕ × Directory)) → Apart first row (d ∷ tree) → Apart first row tree
apart_tail first row d tree apart n l h = by (is_at (nat_cmp n) d.0) (apart n l h)
  where
    by : (t : Bool) → cond t (Some d.1) (stands n tree) ≡ None → stands n tree ≡ None
    by true e = absurd (let torn : Some d.1 ≡ None = e in cc)
    by false e = e

climbs_sorted : (low : ℕ) (ds : List (ℕ × Directory)) → AllByRecursion (λ k. low ≤ k) (keys_of ds) → IsStrictlySortedBy nat_cmp (keys_of ds) → Climbs low ds
unfolding IsStrictlySortedBy
climbs_sorted low [] from sorted = tt
climbs_sorted low (d ∷ ds) from sorted = (from.0, climbs_sorted (d.0 + 1) ds (beyond d.0 (keys_of ds) sorted.0) sorted.1)

all_less : (a low : ℕ) (ds : List (ℕ × Directory)) → a < low → Climbs low ds → AllByRecursion (λ k. nat_cmp a k ≡ Less) (keys_of ds)
all_less a low [] l climbs = tt
all_less a low (d ∷ ds) l climbs =
    let from = climbs.0 in
    let less : nat_cmp a d.0 ≡ Less = grind (arith, from, l) in
    (less, all_less a (d.0 + 1) ds (omega (arith, from, l)) climbs.1)

sorted_climbs : (low : ℕ) (ds : List (ℕ × Directory)) → Climbs low ds → IsStrictlySortedBy nat_cmp (keys_of ds)
unfolding IsStrictlySortedBy
sorted_climbs low [] climbs = tt
sorted_climbs low (d ∷ ds) climbs = (all_less d.0 (d.0 + 1) ds (omega arith) climbs.1, sorted_climbs (d.0 + 1) ds climbs.1)

climbs_row : (low first : ℕ) (row : List Directory) (rest : List (ℕ × Directory)) → low ≤ first → Climbs (first + length row) rest → Climbs low (numbered first row ++ rest)
climbs_row low first [] [] l climbs = tt
climbs_row low first [] (d ∷ rest) l climbs = let from = climbs.0 in (omega (arith, from, l), climbs.1)
climbs_row low first (x ∷ row) rest l climbs =
    let next : first + suc (length row) ≡ first + 1 + length row = omega arith in
    (l, climbs_row (first + 1) (first + 1) row rest (omega arith) (subst (λ n. Climbs n rest) next climbs))

climbs_among : (low first : ℕ) (row : List Directory) (tree : List (ℕ × Directory)) → low ≤ first → Climbs low tree → Apart first row tree → Climbs low (among first row tree)
climbs_among low first row [] l climbs none = subst (λ ds. Climbs low ds) (append-nil (numbered first row)) (climbs_row low first row [] l tt)
climbs_among low first row (d ∷ tree) l climbs none =
    by (nat_lt d.0 first) refl (λ e. climbs_among (d.0 + 1) first row tree (let below = ltb-true d.0 first e in omega (arith, below)) climbs.1 (apart_tail first row d tree none))
  where
    behind : (t : Bool) → nat_lt d.0 (first + length row) ≡ t → first ≤ d.0 → first + length row ≤ d.0
    behind true e from = absurd (let torn : Some d.1 ≡ None = sym (here d.0 d.0 d.1 tree refl) ∙ none d.0 from (ltb-true d.0 (first + length row) e) in cc)
    behind false e from = ltb-false d.0 (first + length row) e

    by : (t : Bool) → nat_lt d.0 first ≡ t → (nat_lt d.0 first ≡ true → Climbs (d.0 + 1) (among first row tree)) → Climbs low (cond t (d ∷ among first row tree) (numbered first row ++ d ∷ tree))
    by true e rest = (climbs.0, rest e)
    by false e rest = climbs_row low first row (d ∷ tree) l (behind (nat_lt d.0 (first + length row)) refl (ltb-false d.0 first e), climbs.1)

-- ---- all directories together

module _ (Q : ℕ × Directory → Type 0) where
  abbrev Each : List (ℕ × Directory) → Type 0
  Each [] = Unit {0}
  Each (d ∷ ds) = Q d × Each ds

  each_joined : (xs ys : List (ℕ × Directory)) → Each xs → Each ys → Each (xs ++ ys)
  each_joined [] ys p q = q
  each_joined (x ∷ xs) ys p q = (p.0, each_joined xs ys p.1 q)

  each_among : (first : ℕ) (row : List Directory) (tree : List (ℕ × Directory)) → Each (numbered first row) → Each tree → Each (among first row tree)
  each_among first row [] p q = p
  each_among first row (d ∷ tree) p q = by (nat_lt d.0 first) (each_among first row tree p q.1)
    where
      by : (t : Bool) → Each (among first row tree) → Each (cond t (d ∷ among first row tree) (numbered first row ++ d ∷ tree))
      by true rest = (q.0, rest)
      by false rest = each_joined (numbered first row) (d ∷ tree) p q

-- a directory that fits
abbrev Fits : ℕ × Directory → Type 0
Fits d = (d.0 < 2 ^ 53) × ArePagesApart d.1.items

each_of : (ds : List (ℕ × Directory)) → AllByRecursion (λ n. n < 2 ^ 53) (keys_of ds) → AllByRecursion (λ (d : Directory). ArePagesApart d.items) (values_of ds) → Each Fits ds
each_of [] p q = tt
each_of (d ∷ ds) p q = ((p.0, q.0), each_of ds p.1 q.1)

each_row : (first : ℕ) (row : List Directory) → first + length row ≤ 2 ^ 53 → AllByRecursion (λ (d : Directory). ArePagesApart d.items) row → Each Fits (numbered first row)
each_row first [] l p = tt
each_row first (d ∷ row) l p = ((omega (arith, l), p.0), each_row (first + 1) row (omega (arith, l)) p.1)

keys_each : (ds : List (ℕ × Directory)) → Each Fits ds → AllByRecursion (λ n. n < 2 ^ 53) (keys_of ds)
keys_each [] p = tt
keys_each (d ∷ ds) p = (p.0.0, keys_each ds p.1)

values_each : (ds : List (ℕ × Directory)) → Each Fits ds → AllByRecursion (λ (d : Directory). ArePagesApart d.items) (values_of ds)
values_each [] p = tt
values_each (d ∷ ds) p = (p.0.1, values_each ds p.1)

module _ (first : ℕ) (row : List Directory) (tree : List (ℕ × Directory)) (are : AreDirectoriesApart first row tree) where
  each : Each Fits (among first row tree)
  each = each_among Fits first row tree
      (each_row first row are.end (recursion_from_All (λ (d : Directory). ArePagesApart d.items) row are.short))
      (each_of tree (recursion_from_All (λ n. n < 2 ^ 53) (keys_of tree) are.stored.numbers)
      (recursion_from_All (λ (d : Directory). ArePagesApart d.items) (values_of tree) are.stored.short))

  pub whole : AreDirectories (among first row tree)
  whole = record {
    ordered = sorted_climbs 0 (among first row tree) (climbs_among 0 first row tree (omega arith) (climbs_sorted 0 tree (all_above (keys_of tree)) are.stored.ordered) are.apart);
    numbers = All-from_recursion (λ n. n < 2 ^ 53) (keys_of (among first row tree)) (keys_each (among first row tree) each);
    short = All-from_recursion (λ (d : Directory). ArePagesApart d.items) (values_of (among first row tree)) (values_each (among first row tree) each);
  }
