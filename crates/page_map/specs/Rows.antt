-- Directories in a tree, and a row of directories that stand at consecutive numbers: the numbers of the row stand in no tree.
use Rattle.std.specs.{Prelude.{◌≡◌, ◌≤◌, ◌<◌, ◌+◌, ◌^◌, ℕ, List, [], ◌∷◌, ◌++◌, None, cond, length, nat_lt}, BTreeMap.{is_at}, List.{All}, Map.{lookup}}
use Rattle.std.specs.Ordering.{nat_cmp}
use Rattle.page_map.specs.Pages.{Directory, NumberMap, ArePagesApart, AreDirectories, numbers_of, value_at}

-- the directories of a row, with their numbers from this one on
abbrev pub numbered : ℕ → List Directory → List (ℕ × Directory)
numbered first [] = []
numbered first (directory ∷ row) = (first, directory) ∷ numbered (first + 1) row

-- the directories of a tree, and those of a row from this number on, in the order of their numbers
abbrev pub among : ℕ → List Directory → List (ℕ × Directory) → List (ℕ × Directory)
among first row [] = numbered first row
among first row (directory ∷ tree) = cond (nat_lt directory.0 first) (directory ∷ among first row tree) (numbered first row ++ directory ∷ tree)

-- the map that row and tree hold
abbrev pub held : ℕ → List Directory → List (ℕ × Directory) → NumberMap
held first row tree = numbers_of (among first row tree)

-- the directories of row and tree are those of keys of 64 bits, none reaches into the next, and none stands in both; the row is not too long
pub record AreDirectoriesApart (first : ℕ) (row : List Directory) (tree : List (ℕ × Directory)) : Type 0 where
  pub stored : AreDirectories tree
  pub short : All (λ directory. ArePagesApart directory.items) row
  pub few : length row ≤ 2 ^ 16
  pub end : first + length row ≤ 2 ^ 53
  pub apart : (number : ℕ) → first ≤ number → number < first + length row → lookup (is_at (nat_cmp number)) tree ≡ None

-- a number up to which a row may grow
abbrev pub IsNear : ℕ → List Directory → ℕ → Type 0
IsNear first row number = (first ≤ number) × (number < first + 2 ^ 16) × (number < first + length row + 8)

-- behind a step that takes directories without values off the ends of a row
pub record IsTrimmed (old_first : ℕ) (old : List Directory) (first : ℕ) (row : List Directory) : Type 0 where
  pub values : (number place : ℕ) → value_at (lookup (is_at (nat_cmp number)) (numbered first row)) place ≡ value_at (lookup (is_at (nat_cmp number)) (numbered old_first old)) place
  pub start : old_first ≤ first
  pub end : first + length row ≤ old_first + length old
  pub short : All (λ directory. ArePagesApart directory.items) old → All (λ directory. ArePagesApart directory.items) row
