-- What one who waits wants to have before he gives more of his script.
use Rattle.std.{specs.Prelude.{List, ℕ, [], Option, Some}, proofs.Common.{String, Global}}
use Rattle.fx_io.specs.Files.{file_of}
use Rattle.replay.specs.{Report.{IsPrompt}, Wanted.{wanted}}
use Rattle.session_model.specs.{Counts.{held_counts}, Gives.{gives, fires}}

-- these bytes were given, and all is written that the program is to print then for these words over these files, and nothing else
abbrev pub IsAnswered : List (String Global) → List (List ℕ × List ℕ) → List ℕ → Option (List ℕ) → Type 0
IsAnswered words files bytes written = IsPrompt gives fires held_counts (wanted words (file_of files)) bytes (Some []) written
