use Rattle.rete_net.proofs.Unmissed.{net_less}
use Rattle.rete_net.proofs.laws.a_forgotten_fact_may_go.Goals as goal

pub returns : goal.returns
returns c p net s forgotten f stands unmissed = net_less p net s forgotten f stands unmissed
