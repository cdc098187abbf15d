-- A finite map from numbers to numbers, in directories of pages: directory n has the values of the 2048 keys from 2048 * n on, in 32
-- pages of 64 keys each.
use Rattle.std.specs.Prelude.{◌≤◌, ◌<◌, ◌+◌, ◌*◌, ◌/◌, ◌%◌, ◌^◌, ℕ, zero, suc, List, [], ◌∷◌, Option, Some, None, cond, length, nat_eq, slice_index_or}
use Rattle.std.specs.FinMap as map
use Rattle.std.specs.{Global.{Vec}, List.{All, Sorted.{IsStrictlySortedBy}}, Map.{keys_of, values_of}, Ordering.{nat_cmp}}

-- a finite map from numbers to numbers
abbrev pub NumberMap : Type 0
NumberMap = map.FinMap nat_cmp ℕ

-- the numbers of a page, at the places of its keys
abbrev pub Page : Type 0
Page = Vec ℕ

-- the pages of a directory, in the order of their keys
abbrev pub Directory : Type 0
Directory = Vec Page

-- what stands at a place that has no value
abbrev pub free : ℕ
free = 18446744073709551615

-- the value for which a number stands
abbrev pub value_for_number : ℕ → Option ℕ
value_for_number number = cond (nat_eq number free) None (Some number)

-- a key with its value, if it has one, before the entries that follow
abbrev pub entry_of : ℕ → Option ℕ → List (ℕ × ℕ) → List (ℕ × ℕ)
entry_of key None rest = rest
entry_of key (Some value) rest = (key, value) ∷ rest

-- the keys from this one on, with the values for which these numbers stand, before the entries that follow
abbrev pub entries_from : ℕ → List ℕ → List (ℕ × ℕ) → List (ℕ × ℕ)
entries_from key [] rest = rest
entries_from key (number ∷ numbers) rest = entry_of key (value_for_number number) (entries_from (key + 1) numbers rest)

-- the entries of pages that follow one another, the first of which begins at this key, before the entries that follow
abbrev pub entries_by : ℕ → List Page → List (ℕ × ℕ) → List (ℕ × ℕ)
entries_by key [] rest = rest
entries_by key (page ∷ pages) rest = entries_from key page.items (entries_by (key + 64) pages rest)

-- the entries of all directories
abbrev pub entries_of : List (ℕ × Directory) → List (ℕ × ℕ)
entries_of [] = []
entries_of (directory ∷ directories) = entries_by (2048 * directory.0) directory.1.items (entries_of directories)

-- the map that the directories hold
unfoldable pub numbers_of : List (ℕ × Directory) → NumberMap
numbers_of directories = map.from_entries (entries_of directories)

-- no page reaches into the next, and none stands beyond the directory
pub record ArePagesApart (pages : List Page) : Type 0 where
  pub few : length pages ≤ 32
  pub short : All (λ page. length page.items ≤ 64) pages

-- the directories stand in the order of their numbers, which are those of keys of 64 bits, and none reaches into the next
pub record AreDirectories (directories : List (ℕ × Directory)) : Type 0 where
  pub ordered : IsStrictlySortedBy nat_cmp (keys_of directories)
  pub numbers : All (λ number. number < 2 ^ 53) (keys_of directories)
  pub short : All (λ directory. ArePagesApart directory.items) (values_of directories)

-- what stands at a place of a page
abbrev pub number_in : List Page → ℕ → ℕ → ℕ
number_in [] page place = free
number_in (first ∷ pages) zero place = slice_index_or first.items place free
number_in (first ∷ pages) (suc page) place = number_in pages page place

-- what stands at a place of a directory
abbrev pub number_in_pages : List Page → ℕ → ℕ
number_in_pages pages place = number_in pages (place / 64) (place % 64)

-- the value at a place of a directory, where there is one
abbrev pub value_at : Option Directory → ℕ → Option ℕ
value_at None place = None
value_at (Some directory) place = value_for_number (number_in_pages directory.items place)
