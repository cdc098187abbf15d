-- The run that goes on behind an image.
use Rattle.std.specs.Prelude.{ℕ, List}
use Rattle.checkpoint.specs.declared.image.RunPart.{RunPart}
use Rattle.rule_world.specs.Worlds.{World}
use Rattle.line_run.specs.{Parts.{progress_behind}, Run.{Outcome, state_in}}
use Rattle.script_run.specs.Run.{RunSetting, run}

-- the lines behind a part, in a world
abbrev pub run_on : RunSetting → World → RunPart → List (List ℕ) → Outcome
run_on setting w part = run setting (state_in w (progress_behind setting.limit part))
