-- Runs that stop before the end of the script.
use Rattle.std.specs.{Prelude.{◌≡◌, ◌≢◌, ◌⊎◌, ◌<◌, ◌+◌, ◌++◌, ℕ, List, [], ◌∷◌, length, Option, Some}, List.{flat_map}}
use Rattle.fx_io.specs.{Outside.{append, AppendsFront}, Lines.{lines_of, HasNoEnd}}
use Rattle.line_run.specs.{declared.{turn.Ended.TheVariants.{Limit}, fault.ImageFault.{ImageFault}}, Run.{Done, Outcome, RunState, Steps, saves, state_after}}
use Rattle.line_run.specs.Saves.{Files, Puts, ArePut}

-- lines with their ends
abbrev pub ended_lines : List (List ℕ) → List ℕ
ended_lines lines = flat_map (λ (line : List ℕ). line ++ 10 ∷ []) lines

-- The run of a script that stopped at a read. Of the script these lines were taken with their ends, behind them a piece without a line end,
-- and the rest is left; or the lines are all that the script has. They did not meet the limit of firings, and what they print is what was
-- written.
pub record StoppedAtRead (outcome : List (List ℕ) → Outcome) (script : List ℕ) (left before after : Option (List ℕ)) : Type 0 where
  pub lines : List (List ℕ)
  pub piece : List ℕ
  pub rest : List ℕ
  pub parts : lines_of script ≡ lines ++ lines_of (piece ++ rest)
  pub ends : (script ≡ ended_lines lines ++ piece ++ rest) ⊎ (lines ≡ lines_of script)
  pub no_end : HasNoEnd piece
  pub is_left : left ≡ Some rest
  pub not_met : (outcome lines).ended ≢ Limit
  pub is_written : after ≡ append before (outcome lines).bytes

-- the run of a script of more bytes than a run may take, that did not meet the limit of firings in the lines taken with their ends: behind
-- these a piece without a line end was taken, with which they are more than that, and the rest was left
pub record LongOver (most : ℕ) (outcome : List (List ℕ) → Outcome) (script : List ℕ) : Type 0 where
  pub lines : List (List ℕ)
  pub piece : List ℕ
  pub rest : List ℕ
  pub parts : lines_of script ≡ lines ++ lines_of (piece ++ rest)
  pub no_end : HasNoEnd piece
  pub many : length rest + most < length script
  pub not_met : (outcome lines).ended ≢ Limit

-- A run that stopped somewhere: of some first lines exactly the images were put, and what is written is a front of what these lines print. So
-- what is told behind a line that saves was put before.
pub record KeptFront (puts : Puts) (outcome : List (List ℕ) → Outcome) (saved : List (List ℕ) → List RunState) (script : List ℕ) (before after : Option (List ℕ)) (files files' : Files) : Type 0 where
  pub lines : List (List ℕ)
  pub rest : List (List ℕ)
  pub parts : lines_of script ≡ lines ++ rest
  pub is_front : AppendsFront before after (outcome lines).bytes
  pub are_put : ArePut puts (saved lines) files files'

-- a run that stopped at a read: exactly the images of the lines were put that were taken with their ends
pub record StoppedKept (puts : Puts) (outcome : List (List ℕ) → Outcome) (saved : List (List ℕ) → List RunState) (script : List ℕ) (left before after : Option (List ℕ)) (files files' : Files) : Type 0 where
  pub stop : StoppedAtRead outcome script left before after
  pub are_put : ArePut puts (saved stop.lines) files files'

-- A run that stopped where an image was refused: behind some first lines, whose images are put and all of which is written, comes a line that
-- saves, and the image of the state behind it is the one that is refused.
pub record RefusedAt (puts : Puts) (refuses : RunState → ImageFault → Type 0) (why : ImageFault) (steps : Steps) (outcome : List (List ℕ) → Outcome) (saved : List (List ℕ) → List RunState) (script : List ℕ)
    (before after : Option (List ℕ)) (files files' : Files) : Type 0 where
  pub lines : List (List ℕ)
  pub line : List ℕ
  pub rest : List (List ℕ)
  pub parts : lines_of script ≡ lines ++ line ∷ rest
  pub state : RunState
  pub comes : (outcome lines).comes_to ≡ Some state
  pub done : Done
  pub saves_there : steps state line ≡ saves done
  pub is_refused : refuses (state_after state done) why
  pub is_written : after ≡ append before (outcome lines).bytes
  pub are_put : ArePut puts (saved lines) files files'
