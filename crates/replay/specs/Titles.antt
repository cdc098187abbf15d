-- The names under which rules fire.
use Rattle.std.specs.Prelude.{ℕ, drop, List, [], ◌∷◌}
use Rattle.rule_model.specs.declared.program.{Program.{Program}, Rule.{Rule}}

abbrev pub first_or : List ℕ → List (List ℕ) → List ℕ
first_or name [] = name
first_or name (title ∷ titles) = title

-- rules under these names, as far as there are some
unfoldable pub renamed : List (List ℕ) → List Rule → List Rule
renamed titles [] = []
renamed titles (r ∷ rules) = record r { name = first_or r.name titles } ∷ renamed (drop 1 titles) rules

-- A program whose rules have these names. Names are printed, and mean nothing else.
abbrev pub with_titles : List (List ℕ) → Program → Program
with_titles titles p = record p { rules = renamed titles p.rules }
