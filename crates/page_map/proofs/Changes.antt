-- The map behind a write to a directory of the row, or of the tree.
use Rattle.page_map.proofs.Common.{◌≡◌, ◌∙◌, sym, ap, subst, ℕ, ◌+◌, ◌/◌, ◌%◌, ◌<◌, List, Option, Some, None, cond, length, get_or, set, [], nat_eq, nat_cmp}
use Rattle.page_map.proofs.Common.{BTreeMap, is_at, WritesThrough, Directory, free, ArePagesApart, AreDirectories, number_in_pages, value_at, numbered, among}
use Rattle.page_map.proofs.Common.{held, AreDirectoriesApart, All-get_or}
use Rattle.std.specs.FinMap as map
use Rattle.page_map.proofs.{Kept.{get-numbers, put_anew, put_first, take_out, take_last, unchanged, emptied, rewritten, rewritten_others}, Rows.{stands}}
use Rattle.page_map.proofs.{Rows.{stands_at, whole}, Moved.{stands_in_row, stands_in_tree, row_written, row_held, tree_written, tree_held}}

-- the value of a key, by its directory
pub found : (first : ℕ) (row : List Directory) (tree : List (ℕ × Directory)) → AreDirectoriesApart first row tree → (key : ℕ) (o : Option Directory) → stands (key / 2048) (among first row tree) ≡ o
    → value_at o (key % 2048) ≡ map.get (held first row tree) key
found first row tree are key o here = ap (λ o. value_at o (key % 2048)) (sym here) ∙ sym (get-numbers (among first row tree) (whole first row tree are) key)

-- a directory of the row, and what is written in its place
module _ (first : ℕ) (row : List Directory) (tree : List (ℕ × Directory)) (were : AreDirectoriesApart first row tree) (key place : ℕ) (directory w : Directory) (within : place < length row) (number : key / 2048 ≡ first + place)
    (at_place : directory ≡ get_or row place directory) where
  pub row_here : stands (key / 2048) (among first row tree) ≡ Some directory
  row_here = stands_in_row (key / 2048) first row tree directory (stands_at (key / 2048) first place row directory number within at_place)

  module _ (fits : ArePagesApart directory.items → ArePagesApart w.items) where
    pub row_are : AreDirectoriesApart first (set row place w) tree
    row_are = row_held first row tree place w were
        (fits (subst (λ (d : Directory). ArePagesApart d.items) (sym at_place) (All-get_or (λ (d : Directory). ArePagesApart d.items) row place directory within were.short)))

    row_others : (n : ℕ) → stands n (among first (set row place w) tree) ≡ cond (is_at (nat_cmp (key / 2048)) n) (Some w) (stands n (among first row tree))
    row_others n = row_written first row tree place w within n ∙ ap (λ m. cond (is_at (nat_cmp m) n) (Some w) (stands n (among first row tree))) (sym number)

    pub row_put : (value : ℕ) → (value ≡ free → ⊥) → ((k : ℕ) → number_in_pages w.items k ≡ cond (nat_eq (key % 2048) k) value (number_in_pages directory.items k))
        → held first (set row place w) tree ≡ map.insert (held first row tree) key value
    row_put value proper writes =
        put_anew (among first row tree) (among first (set row place w) tree) (whole first row tree were) (whole first (set row place w) tree row_are) key directory w row_here row_others value proper writes

    pub row_take : ((k : ℕ) → number_in_pages w.items k ≡ cond (nat_eq (key % 2048) k) free (number_in_pages directory.items k)) → held first (set row place w) tree ≡ map.remove (held first row tree) key
    row_take writes = take_out (among first row tree) (among first (set row place w) tree) (whole first row tree were) (whole first (set row place w) tree row_are) key directory w row_here row_others writes

    pub row_unchanged : ((k : ℕ) → number_in_pages w.items k ≡ number_in_pages directory.items k) → held first (set row place w) tree ≡ held first row tree
    row_unchanged same = unchanged (among first row tree) (among first (set row place w) tree) (whole first row tree were) (whole first (set row place w) tree row_are) key directory w row_here row_others same

-- a number that the row does not have
module _ (first : ℕ) (row : List Directory) (tree : List (ℕ × Directory)) (were : AreDirectoriesApart first row tree) (key : ℕ) (absent : stands (key / 2048) (numbered first row) ≡ None) where
  -- the first value of a directory comes to the tree
  module _ (next : List (ℕ × Directory)) (stored : AreDirectories next) (blank directory : Directory)
      (others : (n : ℕ) → stands n next ≡ cond (is_at (nat_cmp (key / 2048)) n) (Some directory) (stands n tree)) where
    pub first_are : AreDirectoriesApart first row next
    first_are = tree_held first row tree next (key / 2048) absent (Some directory) others were stored

    pub first_put : None ≡ stands (key / 2048) tree → blank.items ≡ [] → (value : ℕ) → (value ≡ free → ⊥)
        → ((k : ℕ) → number_in_pages directory.items k ≡ cond (nat_eq (key % 2048) k) value (number_in_pages blank.items k)) → held first row next ≡ map.insert (held first row tree) key value
    first_put none empty value proper writes =
        put_first (among first row tree) (among first row next) (whole first row tree were) (whole first row next first_are) key blank directory
        (tree_written first row tree next (key / 2048) absent (Some directory) others) (stands_in_tree (key / 2048) first row tree absent ∙ sym none) empty value proper writes

  pub in_tree : (o : Option Directory) → o ≡ stands (key / 2048) tree → stands (key / 2048) (among first row tree) ≡ o
  in_tree o here = stands_in_tree (key / 2048) first row tree absent ∙ sym here

-- a directory of the tree that is lent, and written
module _ (first : ℕ) (row : List Directory) (m n : BTreeMap ℕ Directory) (were : AreDirectoriesApart first row m.entries) (key : ℕ) (absent : stands (key / 2048) (numbered first row) ≡ None)
    (directory w : Directory) (here : Some directory ≡ stands (key / 2048) m.entries) (wrote : WritesThrough nat_cmp (nat_cmp (key / 2048)) m w n) (fits : ArePagesApart directory.items → ArePagesApart w.items) where
  stored : AreDirectories n.entries
  stored = rewritten m n (key / 2048) directory w were.stored here wrote fits

  others : (q : ℕ) → stands q n.entries ≡ cond (is_at (nat_cmp (key / 2048)) q) (Some w) (stands q m.entries)
  others = rewritten_others m n (key / 2048) directory w here wrote

  all_others : (q : ℕ) → stands q (among first row n.entries) ≡ cond (is_at (nat_cmp (key / 2048)) q) (Some w) (stands q (among first row m.entries))
  all_others = tree_written first row m.entries n.entries (key / 2048) absent (Some w) others

  all_here : stands (key / 2048) (among first row m.entries) ≡ Some directory
  all_here = in_tree first row m.entries were key absent (Some directory) here

  pub tree_are : AreDirectoriesApart first row n.entries
  tree_are = tree_held first row m.entries n.entries (key / 2048) absent (Some w) others were stored

  pub tree_put : (value : ℕ) → (value ≡ free → ⊥) → ((k : ℕ) → number_in_pages w.items k ≡ cond (nat_eq (key % 2048) k) value (number_in_pages directory.items k))
      → held first row n.entries ≡ map.insert (held first row m.entries) key value
  tree_put value proper writes =
      put_anew (among first row m.entries) (among first row n.entries) (whole first row m.entries were) (whole first row n.entries tree_are) key directory w all_here all_others value proper writes

  pub tree_take : ((k : ℕ) → number_in_pages w.items k ≡ cond (nat_eq (key % 2048) k) free (number_in_pages directory.items k)) → held first row n.entries ≡ map.remove (held first row m.entries) key
  tree_take writes = take_out (among first row m.entries) (among first row n.entries) (whole first row m.entries were) (whole first row n.entries tree_are) key directory w all_here all_others writes

  pub tree_unchanged : ((k : ℕ) → number_in_pages w.items k ≡ number_in_pages directory.items k) → held first row n.entries ≡ held first row m.entries
  tree_unchanged same = unchanged (among first row m.entries) (among first row n.entries) (whole first row m.entries were) (whole first row n.entries tree_are) key directory w all_here all_others same

  -- the directory goes with its last value
  module _ (next : List (ℕ × Directory)) (kept : AreDirectories next) (gone : (q : ℕ) → stands q next ≡ cond (is_at (nat_cmp (key / 2048)) q) None (stands q n.entries)) where
    without : (q : ℕ) → stands q next ≡ cond (is_at (nat_cmp (key / 2048)) q) None (stands q m.entries)
    without q = gone q ∙ ap (cond (is_at (nat_cmp (key / 2048)) q) None) (others q) ∙ emptied (is_at (nat_cmp (key / 2048)) q) (Some w) (stands q m.entries)

    pub last_are : AreDirectoriesApart first row next
    last_are = tree_held first row m.entries next (key / 2048) absent None without were kept

    pub last_take : length w.items ≡ 0 → ((k : ℕ) → number_in_pages w.items k ≡ cond (nat_eq (key % 2048) k) free (number_in_pages directory.items k)) → held first row next ≡ map.remove (held first row m.entries) key
    last_take none writes =
        take_last (among first row m.entries) (among first row next) (whole first row m.entries were) (whole first row next last_are) key directory w all_here
        (tree_written first row m.entries next (key / 2048) absent None without) none writes
