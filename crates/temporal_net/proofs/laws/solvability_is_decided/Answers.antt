use Rattle.temporal_net.proofs.Potentials.{decided}
use Rattle.temporal_net.proofs.laws.solvability_is_decided.Goals as goal

pub returns : goal.returns
returns c = decided
