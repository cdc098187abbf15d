use Rattle.script_run.proofs.Limits.{same_run}
use Rattle.script_run.proofs.laws.a_run_does_not_depend_on_its_limit.Goals as goal

pub returns : goal.returns
returns c = same_run
