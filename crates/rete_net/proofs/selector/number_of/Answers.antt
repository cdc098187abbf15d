use Rattle.rete_net.{proofs.Common.{rules}, specs.Selectors.{value_hash}}
use Rattle.rete_net.proofs.selector.number_of.Goals as goal

pub returns : goal.returns
unfolding value_hash
returns c = search rules
