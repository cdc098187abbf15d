-- What a desk that is fed has come to.
use Rattle.std.specs.Prelude.{◌≡◌, ◌++◌, ℕ, List, Some, IfSome, option_map}
use Rattle.rule_model.specs.declared.{life.LifeTable.{LifeTable}, program.Program.{Program}}
use Rattle.rule_world.specs.Worlds.{World}
use Rattle.engine.specs.{declared.world_counts.WorldCounts.{WorldCounts}, WorldCounts.{world_counts}}
use Rattle.checkpoint.specs.declared.image.RunPart.{RunPart}
use Rattle.line_run.specs.{Prompt.{whole_lines}, Run.{Outcome, RunState, run}, declared.turn.Progress.{Progress}}
use Rattle.line_feed.specs.Fed.{HasFed}
use Rattle.script_run.specs.{Doors.{answer_form, engine_of, fire_limit, run_limit}, Firings.{Counts, Fires, Gives}, Live.{LiveSetting, live_by, live_step}}
use Rattle.fed_desk.specs.declared.{desk.Desk.{Desk}, lines.Lines.{Lines}, running.Running.{Running}}

-- ---- what takes its lines, in the words of an engine

-- the worlds for which it stands
abbrev pub fed_stands : {E : Type 0} → (E → World → Type 0) → Lines E → World → Type 0
fed_stands stands it = stands (engine_of it.lines)

-- what does not change in its run
abbrev pub fed_setting : {E : Type 0} → Gives → Fires → Counts → (E → Program) → (E → LifeTable) → Lines E → LiveSetting
fed_setting gives fires counts made_with table it = live_by (fire_limit it.lines) (answer_form it.lines) gives fires counts (run_limit it.lines)
    (made_with (engine_of it.lines)) (table (engine_of it.lines)) it.lines.has_image

-- ---- the run

-- what does not change in the run of a desk: by what its lines go, what an image says of the run before it began, and where it began
pub record FedCourse : Type 0 where
  pub live : LiveSetting
  pub part : RunPart
  pub first : RunState

-- a run goes so: what takes its lines does what this setting says, by its program and lives
abbrev pub FollowsCourse : {E : Type 0} {g : _} → (Lines E → LiveSetting) → FedCourse → Running E g → Type 0
FollowsCourse setting course it =
    (live_step (setting it.fed.taker) ≡ live_step course.live) × ((setting it.fed.taker).run.program ≡ course.live.run.program)
    × ((setting it.fed.taker).table ≡ course.live.table) × (it.first ≡ course.part)

-- what lines print from the beginning on, how that ends, and the state to which it comes
abbrev pub outcome_of : FedCourse → List (List ℕ) → Outcome
outcome_of course = run (live_step course.live) course.first

-- These bytes were fed, and these were put out: what the lines print whose ends were fed was put out or waits to be put out, and nothing else. The desk is
-- at the state to which they come, with the front of the line whose end has not come, or its run has ended at the limit of firings.
abbrev pub HasCome : {E : Type 0} {g : _} → (E → World → Type 0) → (Lines E → LiveSetting) → FedCourse → List ℕ → List ℕ → Desk E g → Type 0
HasCome stands setting course bytes out desk =
    HasFed (fed_stands stands) (live_step course.live) course.first bytes (out ++ desk.text.items) (option_map (λ it. it.fed) desk.run)
    × IfSome desk.run (FollowsCourse setting course)

-- ---- what is told of it

-- the state to which the lines come whose ends were fed, where the run goes on
abbrev pub ComesTo : FedCourse → List ℕ → RunState → Type 0
ComesTo course bytes s = (outcome_of course (whole_lines bytes)).comes_to ≡ Some s

-- how far the run has come, and the counts of its world
abbrev pub Tells : FedCourse → List ℕ → Progress → WorldCounts → Type 0
Tells course bytes at counts =
    (s : RunState) × ComesTo course bytes s × (at ≡ s.progress) × (counts ≡ world_counts course.live.run.program course.live.table s.world)
