-- The summary of what a run over a load prints.
use Rattle.std.specs.{Prelude.{ℕ, ◌++◌, ◌==◌, List, [], ◌∷◌, length, codes}, Fmt.{decimal}, List.{count_by, starts_with}}
use Rattle.fx_io.specs.Lines.{lines_of}

-- how many lines of a text begin with these bytes
abbrev pub lines_with : List ℕ → List ℕ → ℕ
lines_with front text = count_by (λ (line : List ℕ). starts_with (λ a b. a == b) line front) (lines_of text)

-- the number of the load, and of the lines that its run prints how many there are, and how many say what fires and what is faulty
abbrev pub summary_text : ℕ → List ℕ → List ℕ
summary_text number printed =
    codes "gen " ++ decimal number ++ codes " lines " ++ decimal (length (lines_of printed)) ++ codes " fires " ++ decimal (lines_with (codes "fire ") printed)
    ++ codes " faults " ++ decimal (lines_with (codes "fault ") printed) ++ 10 ∷ []
