-- A run that is fed with the bytes of its lines in pieces.
use Rattle.std.specs.Prelude.{◌≡◌, ◌<◌, ◌+◌, ◌^◌, ℕ, ◌++◌, List, [], ◌∷◌, take, Option, Some, None, if◌then◌else◌}
use Rattle.fx_io.specs.Lines.{has_end}
use Rattle.rule_world.specs.Worlds.{World}
use Rattle.line_run.specs.{Prompt.{whole_lines}, Run.{RunState, Steps, progress_after, run}, declared.turn.{Progress.{Progress}, Turn.{Turn}}}
use Rattle.line_run.specs.declared.turn.Turn.TheVariants.{Goes, Saves, Stops}
use Rattle.line_feed.specs.declared.fed.Fed.{Fed}

-- what stands behind the last line end in these bytes: all of them, where there is none
unfoldable pub last_piece : List ℕ → List ℕ
last_piece [] = []
last_piece (b ∷ bytes) = if has_end (b ∷ bytes) then last_piece bytes else b ∷ bytes

-- so many bytes of a line tell whether it is too long
unfoldable pub front_most : ℕ
front_most = 65537

-- what is kept of the front of a line
abbrev pub front_kept : List ℕ → List ℕ
front_kept line = take front_most line

-- what was fed stands for the state that the run comes to, with the front of the line whose end has not come; or the run has ended, and nothing is left
abbrev pub IsAt : {T : Type 0} → (T → World → Type 0) → Option RunState → List ℕ → Option (Fed T) → Type 0
IsAt stands None piece None = Unit {0}
IsAt stands None piece (Some fed) = ⊥
IsAt stands (Some s) piece None = ⊥
IsAt stands (Some s) piece (Some fed) = stands fed.taker s.world × (fed.at ≡ s.progress) × (fed.front.items ≡ front_kept piece)

-- In a run from this state on these bytes were fed, and these printed: what the lines print that end in those.
abbrev pub HasFed : {T : Type 0} → (T → World → Type 0) → Steps → RunState → List ℕ → List ℕ → Option (Fed T) → Type 0
HasFed stands steps first bytes printed fed =
    let outcome = run steps first (whole_lines bytes) in (printed ≡ outcome.bytes) × IsAt stands outcome.comes_to (last_piece bytes) fed

-- These bytes were fed, and what they print was appended: so a run that was fed with some is fed with both.
abbrev pub Feeds : {T : Type 0} → (T → World → Type 0) → Steps → List ℕ → Fed T → Option (Fed T) → List ℕ → List ℕ → Type 0
Feeds stands steps more before after text text' =
    (first : RunState) (bytes printed : List ℕ) → HasFed stands steps first bytes printed (Some before)
    → (news : List ℕ) × (text' ≡ text ++ news) × HasFed stands steps first (bytes ++ more) (printed ++ news) after

-- behind a line: what took it, how far the run has come, and nothing of the next line; or nothing, where the run has ended
abbrev pub IsBehind : {T : Type 0} → T → Progress → Turn → Option (Fed T) → Type 0
IsBehind taker at (Goes faulty left) None = ⊥
IsBehind taker at (Goes faulty left) (Some fed) = (fed.taker ≡ taker) × (fed.at ≡ progress_after at faulty left) × (fed.front.items ≡ [])
IsBehind taker at (Saves faulty left) None = ⊥
IsBehind taker at (Saves faulty left) (Some fed) = (fed.taker ≡ taker) × (fed.at ≡ progress_after at faulty left) × (fed.front.items ≡ [])
IsBehind taker at Stops None = Unit {0}
IsBehind taker at Stops (Some fed) = ⊥

-- more lines can be taken than bytes may still come
abbrev pub CanTake : (ℕ → Type 0) → ℕ → Type 0
CanTake ready room = (n : ℕ) × (room < n) × ready n

-- what takes the lines is ready for all that may still come, and they can be counted
abbrev pub IsReady : {T : Type 0} → (T → Progress → ℕ → Type 0) → Fed T → Type 0
IsReady ready fed = CanTake (ready fed.taker fed.at) fed.room × (fed.at.lines + fed.room < 2 ^ 63)
