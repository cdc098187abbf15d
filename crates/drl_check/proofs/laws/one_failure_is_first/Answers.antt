use Rattle.drl_check.proofs.Exact.{one_first}
use Rattle.drl_check.proofs.laws.one_failure_is_first.Goals as goal

pub returns : goal.returns
returns c = one_first
