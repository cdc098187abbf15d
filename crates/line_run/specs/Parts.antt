-- What an image says of a run, and where a run goes on behind it.
use Rattle.std.specs.Prelude.{◌≡◌, ◌⊎◌, ◌+◌, ◌-◌, ◌++◌, ℕ, false, List, [], ◌∷◌}
use Rattle.checkpoint.specs.declared.image.RunPart.{RunPart}
use Rattle.line_run.specs.declared.turn.Progress.{Progress}

-- of a run of rules with this text that has not begun
abbrev pub first_part : List ℕ → RunPart
first_part rules = record { rules = rules; lines = 0; firings = 0; faulty = false }

-- a limit is one of all firings, those before the image too
abbrev pub progress_behind : ℕ → RunPart → Progress
progress_behind limit part = record { lines = part.lines; left = limit - part.firings; faulted = part.faulty }

-- of a run that began behind a part and has come so far
abbrev pub run_part_at : ℕ → RunPart → Progress → RunPart
run_part_at limit first progress = record {
  rules = first.rules;
  lines = progress.lines;
  firings = first.firings + ((limit - first.firings) - progress.left);
  faulty = progress.faulted;
}

-- a script that is empty or ends with a line end: what stands behind it begins with a line of its own
abbrev pub EndsLine : List ℕ → Type 0
EndsLine script = (script ≡ []) ⊎ ((front : List ℕ) × (script ≡ front ++ 10 ∷ []))
