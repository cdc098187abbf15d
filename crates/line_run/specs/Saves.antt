-- Images of the states of a run that are put, one after the other.
use Rattle.std.specs.Prelude.{◌≡◌, ℕ, List, [], ◌∷◌, Option}
use Rattle.line_run.specs.Run.{RunState}

-- files by name, where they are told
abbrev pub Files : Type 0
Files = Option (List ℕ → Option (List ℕ))

-- what it is that the image of a state is put, in the files before and after
abbrev pub Puts : Type 1
Puts = RunState → Files → Files → Type 0

-- the images of these states were put one after the other
abbrev pub ArePut : Puts → List RunState → Files → Files → Type 0
ArePut puts [] before after = after ≡ before
ArePut puts (s ∷ states) before after = (middle : Files) × puts s before middle × ArePut puts states middle after
