use Rattle.temporal_net.proofs.Sums.{no_solution}
use Rattle.temporal_net.proofs.laws.negative_cycle_has_no_solution.Goals as goal

pub returns : goal.returns
returns c = no_solution
