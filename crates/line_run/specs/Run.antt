-- A run: what the lines of a script print one after the other, and how it ends. What a line does in a state is given.
use Rattle.std.specs.Prelude.{ℕ, ◌+◌, ◌||◌, ◌++◌, Bool, List, [], ◌∷◌, Option, Some, None}
use Rattle.rule_world.specs.Worlds.{World}
use Rattle.line_run.specs.declared.turn.{Progress.{Progress}, Ended.{Ended, TheVariants.{Script, Limit}}}

-- a line of the script after which the run goes on: what it prints, the world that it leaves, how many firings are left,
-- and whether it is a fault
pub record Done : Type 0 where
  pub text : List ℕ
  pub world : World
  pub left : ℕ
  pub faulty : Bool

-- what a line does: the run goes on; it goes on, and behind the line the image of its state is put, before what the line prints is written; or
-- it ends at the limit of firings, and the line prints this
pub data LineEffect : Type 0 where
  goes_on : Done → LineEffect
  saves : Done → LineEffect
  stops : List ℕ → LineEffect

-- where a run is between two lines: how far it has come, and its world
pub record RunState : Type 0 where
  pub progress : Progress
  pub world : World

abbrev pub state_in : World → Progress → RunState
state_in w progress = record { progress = progress; world = w }

-- what each line does in each state
abbrev pub Steps : Type 0
Steps = RunState → List ℕ → LineEffect

-- what a run prints, how it ends, and the state that it comes to at the end of its script
pub record Outcome : Type 0 where
  pub bytes : List ℕ
  pub ended : Ended
  pub comes_to : Option RunState

abbrev pub then_run : List ℕ → Outcome → Outcome
then_run text rest = record { bytes = text ++ rest.bytes; ended = rest.ended; comes_to = rest.comes_to }

-- the limit was met, and nothing more is done
abbrev pub at_limit : Outcome
at_limit = record { bytes = []; ended = Limit; comes_to = None }

-- no line is left
abbrev pub at_end : RunState → Outcome
at_end s = record { bytes = []; ended = Script s.progress.faulted; comes_to = Some s }

-- behind a line
abbrev pub progress_after : Progress → Bool → ℕ → Progress
progress_after progress faulty left = record { lines = progress.lines + 1; left = left; faulted = progress.faulted || faulty }

abbrev pub state_after : RunState → Done → RunState
state_after s done = state_in done.world (progress_after s.progress done.faulty done.left)

abbrev pub after_step : LineEffect → (Done → Outcome) → Outcome
after_step (goes_on done) rest = then_run done.text (rest done)
after_step (saves done) rest = then_run done.text (rest done)
after_step (stops text) rest = then_run text at_limit

-- the lines from a state on
unfoldable pub run : Steps → RunState → List (List ℕ) → Outcome
run steps s [] = at_end s
run steps s (line ∷ lines) = after_step (steps s line) (λ (done : Done). run steps (state_after s done) lines)

-- the state behind a line in front of those after it, where the line saves
abbrev pub onto_saved : LineEffect → (Done → RunState) → (Done → List RunState) → List RunState
onto_saved (goes_on done) behind rest = rest done
onto_saved (saves done) behind rest = behind done ∷ rest done
onto_saved (stops text) behind rest = []

-- the states whose images are put, in their order: the state behind each line that saves
unfoldable pub saved_states : Steps → RunState → List (List ℕ) → List RunState
saved_states steps s [] = []
saved_states steps s (line ∷ lines) = onto_saved (steps s line) (state_after s) (λ (done : Done). saved_states steps (state_after s done) lines)
