use Rattle.drl_compile.proofs.Flagged.{one_for_each}
use Rattle.drl_compile.proofs.laws.each_condition_is_one.Goals as goal

pub returns : goal.returns
returns c = one_for_each
