-- Lines that ask for nothing.
use Rattle.std.specs.{Prelude.{ℕ, ◌==◌, ◌||◌, Bool, List}, List.{list_all}}

-- a space, a tab or a carriage return
abbrev pub is_blank_byte : ℕ → Bool
is_blank_byte b = b == 32 || b == 9 || b == 13

-- nothing but spaces, tabs and carriage returns
abbrev pub is_line_blank : List ℕ → Bool
is_line_blank line = list_all is_blank_byte line
