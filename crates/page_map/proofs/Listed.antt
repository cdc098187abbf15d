-- The entries of all directories, from those of the tree below the row, of the row, and of the tree behind it.
use Rattle.page_map.proofs.Common.{◌≡◌, ◌∙◌, sym, ap, refl, ℕ, ◌+◌, ◌<◌, ◌≤◌, ◌*◌, List, [], ◌∷◌, ◌++◌, Bool, true, false, cond, arith, append_assoc, map}
use Rattle.page_map.proofs.Common.{nat_lt, Included, Excluded, Unbounded, nat_cmp, range_contains, keys_of, All, AllByRecursion, ltb-true, ltb-false}
use Rattle.page_map.proofs.Common.{append-nil, All-tail, Directory, entries_of, entries_by, numbered, among, entries_between, filter, All-cons, All-head}
use Rattle.{page_map.proofs.Kept.{beyond, joined_pages}, std.specs.List.Sorted.{IsStrictlySortedBy}}

entries_joined : (xs ys : List (ℕ × Directory)) → entries_of (xs ++ ys) ≡ entries_of xs ++ entries_of ys
entries_joined [] ys = refl
entries_joined (x ∷ xs) ys =
    ap (λ es. entries_by (2048 * x.0) x.1.items es) (entries_joined xs ys)
    ∙ sym (joined_pages (2048 * x.0) x.1.items (entries_of xs ++ entries_of ys))
    ∙ sym (append_assoc (entries_by (2048 * x.0) x.1.items []) (entries_of xs) (entries_of ys))
    ∙ ap (λ es. es ++ entries_of ys) (joined_pages (2048 * x.0) x.1.items (entries_of xs))

-- what holds of each holds of each that is kept
pub each_kept : {Y : Type 0} (p : ℕ × Directory → Bool) (f : ℕ × Directory → Y) (P : Y → Type 0) (ds : List (ℕ × Directory)) → All P (map f ds) → All P (map f (filter p ds))
each_kept p f P [] all = all
each_kept p f P (d ∷ ds) all = by (p d) (each_kept p f P ds (All-tail P (f d) (map f ds) all))
  where
    by : (t : Bool) → All P (map f (filter p ds)) → All P (map f (cond t (d ∷ filter p ds) (filter p ds)))
    by true rest = All-cons P (f d) (map f (filter p ds)) (All-head P (f d) (map f ds) all) rest
    by false rest = rest

module _ (first : ℕ) where
  -- the directories of a tree below the row, and those from it on
  abbrev pub Below : List (ℕ × Directory) → List (ℕ × Directory)
  Below tree = entries_between nat_cmp Unbounded (Excluded first) tree

  abbrev pub Behind : List (ℕ × Directory) → List (ℕ × Directory)
  Behind tree = entries_between nat_cmp (Included first) Unbounded tree

  is_below : (n : ℕ) → n < first → range_contains nat_cmp Unbounded (Excluded first) n ≡ true
  is_below n l = grind (arith, l)

  not_below : (n : ℕ) → first ≤ n → range_contains nat_cmp Unbounded (Excluded first) n ≡ false
  not_below n l = grind (arith, l)

  is_behind : (n : ℕ) → first ≤ n → range_contains nat_cmp (Included first) Unbounded n ≡ true
  is_behind n l = grind (arith, l)

  not_behind : (n : ℕ) → n < first → range_contains nat_cmp (Included first) Unbounded n ≡ false
  not_behind n l = grind (arith, l)

  none_below : (low : ℕ) (tree : List (ℕ × Directory)) → first ≤ low → AllByRecursion (λ k. low ≤ k) (keys_of tree) → Below tree ≡ []
  none_below low [] l from = refl
  none_below low (d ∷ tree) l from =
      let here = from.0 in
      ap (λ t. cond t (d ∷ Below tree) (Below tree)) (not_below d.0 (omega (arith, l, here))) ∙ none_below low tree l from.1

  all_behind : (low : ℕ) (tree : List (ℕ × Directory)) → first ≤ low → AllByRecursion (λ k. low ≤ k) (keys_of tree) → Behind tree ≡ tree
  all_behind low [] l from = refl
  all_behind low (d ∷ tree) l from =
      let here = from.0 in
      ap (λ t. cond t (d ∷ Behind tree) (Behind tree)) (is_behind d.0 (omega (arith, l, here))) ∙ ap (λ ds. d ∷ ds) (all_behind low tree l from.1)

  among_parts : (row : List Directory) (tree : List (ℕ × Directory)) → IsStrictlySortedBy nat_cmp (keys_of tree) → among first row tree ≡ Below tree ++ (numbered first row ++ Behind tree)
  unfolding IsStrictlySortedBy
  among_parts row [] sorted = sym (append-nil (numbered first row))
  among_parts row (d ∷ tree) sorted = by (nat_lt d.0 first) refl (among_parts row tree sorted.1)
    where
      by : (t : Bool) → nat_lt d.0 first ≡ t → among first row tree ≡ Below tree ++ (numbered first row ++ Behind tree)
          → cond t (d ∷ among first row tree) (numbered first row ++ d ∷ tree)
          ≡ cond (range_contains nat_cmp Unbounded (Excluded first) d.0) (d ∷ Below tree) (Below tree) ++ (numbered first row ++ cond (range_contains nat_cmp (Included first) Unbounded d.0) (d ∷ Behind tree) (Behind tree))
      by true e rest =
          let l = ltb-true d.0 first e in
          ap (λ ds. d ∷ ds) rest
          ∙ ap (λ t. (d ∷ Below tree) ++ (numbered first row ++ cond t (d ∷ Behind tree) (Behind tree))) (sym (not_behind d.0 l))
          ∙ ap (λ t. cond t (d ∷ Below tree) (Below tree) ++ (numbered first row ++ cond (range_contains nat_cmp (Included first) Unbounded d.0) (d ∷ Behind tree) (Behind tree))) (sym (is_below d.0 l))
      by false e rest =
          let l = ltb-false d.0 first e in
          let from = beyond d.0 (keys_of tree) sorted.0 in
          ap (λ ds. numbered first row ++ d ∷ ds) (sym (all_behind (d.0 + 1) tree (omega (arith, l)) from))
          ∙ ap (λ ds. ds ++ (numbered first row ++ d ∷ Behind tree)) (sym (none_below (d.0 + 1) tree (omega (arith, l)) from))
          ∙ ap (λ t. Below tree ++ (numbered first row ++ cond t (d ∷ Behind tree) (Behind tree))) (sym (is_behind d.0 l))
          ∙ ap (λ t. cond t (d ∷ Below tree) (Below tree) ++ (numbered first row ++ cond (range_contains nat_cmp (Included first) Unbounded d.0) (d ∷ Behind tree) (Behind tree))) (sym (not_below d.0 l))

  pub entries_parts : (row : List Directory) (tree : List (ℕ × Directory)) → IsStrictlySortedBy nat_cmp (keys_of tree)
      → entries_of (among first row tree) ≡ entries_of (Below tree) ++ (entries_of (numbered first row) ++ entries_of (Behind tree))
  entries_parts row tree sorted =
      ap entries_of (among_parts row tree sorted) ∙ entries_joined (Below tree) (numbered first row ++ Behind tree)
      ∙ ap (λ es. entries_of (Below tree) ++ es) (entries_joined (numbered first row) (Behind tree))
