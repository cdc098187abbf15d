use Rattle.drl_compile.proofs.Flagged.{observed_are_flagged}
use Rattle.drl_compile.proofs.laws.observed_types_are_flagged.Goals as goal

pub returns : goal.returns
returns c = observed_are_flagged
