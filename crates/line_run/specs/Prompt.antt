-- What a run writes of what its lines print, and when it may ask for more of its script.
use Rattle.std.specs.Prelude.{◌≡◌, ◌==◌, ℕ, Bool, true, false, List, [], ◌∷◌, Option, if◌then◌else◌}
use Rattle.fx_io.specs.Outside.{append}
use Rattle.rule_world.specs.Worlds.{World}
use Rattle.line_run.specs.Run.{Outcome}

-- what is written of what lines print: nothing where the run is silent
abbrev pub said : Bool → List ℕ → List ℕ
said true text = []
said false text = text

-- an outcome, with what is written of it
abbrev pub heard : Bool → Outcome → Outcome
heard true outcome = record outcome { bytes = [] }
heard false outcome = outcome

-- a byte in front of the first line that is whole; where none is, it is in front of one that has not ended
abbrev pub onto_whole : ℕ → List (List ℕ) → List (List ℕ)
onto_whole b [] = []
onto_whole b (line ∷ lines) = (b ∷ line) ∷ lines

-- the lines that end in these bytes, each without its end: the lines of a text without a last piece that has no end
unfoldable pub whole_lines : List ℕ → List (List ℕ)
whole_lines [] = []
whole_lines (b ∷ bytes) = if b == 10 then [] ∷ whole_lines bytes else onto_whole b (whole_lines bytes)

-- What was written when these bytes of the script were taken is what the lines print that end in them, and nothing else, from each world that
-- the engine stands for; nothing is, where the run is silent.
abbrev pub IsPromptRun : Bool → (World → Type 0) → (World → List (List ℕ) → Outcome) → List ℕ → Option (List ℕ) → Option (List ℕ) → Type 0
IsPromptRun true stands outcome bytes before now = now ≡ before
IsPromptRun false stands outcome bytes before now = (w : World) → stands w → now ≡ append before (outcome w (whole_lines bytes)).bytes
