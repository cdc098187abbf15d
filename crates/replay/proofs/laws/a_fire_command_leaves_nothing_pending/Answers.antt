use Rattle.script_run.proofs.Fired.{settled}
use Rattle.replay.proofs.laws.a_fire_command_leaves_nothing_pending.Goals as goal

pub returns : goal.returns
returns c fires p left more w v lines h = settled fires p left w lines v more h
