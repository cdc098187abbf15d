use Rattle.drl_compile.proofs.Timed.{each_has_operator}
use Rattle.drl_compile.proofs.laws.temporal_tests_have_operators.Goals as goal

pub returns : goal.returns
returns c = each_has_operator
