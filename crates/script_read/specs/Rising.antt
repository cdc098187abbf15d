-- What is given for fields, in the byte order of their names.
use Rattle.std.specs.{Prelude.{ℕ, List}, Cmp.Lexicographic.{slice_cmp}, List.Sorted.{IsStrictlySortedBy}, Ordering.{nat_cmp}, declared.cmp.Ordering.{Ordering}}
use Rattle.script_read.specs.declared.given.Given.{Given}

-- two members, by the bytes of their names
abbrev pub name_cmp : List ℕ × Given → List ℕ × Given → Ordering
name_cmp member other = slice_cmp nat_cmp member.0 other.0

-- each name is before those behind it
abbrev pub IsRising : List (List ℕ × Given) → Type 0
IsRising members = IsStrictlySortedBy name_cmp members
