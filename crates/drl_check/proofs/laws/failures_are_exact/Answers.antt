use Rattle.drl_check.proofs.Exact.{exact_none, is_first_failure, first_failure_is}
use Rattle.drl_check.proofs.laws.failures_are_exact.Goals as goal

pub returns : goal.returns
returns c = record {
  none = exact_none;
  some = λ file f. (is_first_failure file f, first_failure_is file f);
}
