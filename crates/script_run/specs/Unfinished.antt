-- Runs of scripts that are too long.
use Rattle.std.specs.Prelude.{ℕ, ◌^◌, List}
use Rattle.line_run.specs.{Run.{Outcome}, Unfinished.{LongOver}}

-- the run of a script of more than 1 GiB that did not meet the limit of firings in the lines taken with their ends
abbrev pub Long : (List (List ℕ) → Outcome) → List ℕ → Type 0
Long = LongOver (2 ^ 30)
