use Rattle.rete_net.proofs.Networks.{network_of, rules_counted}
use Rattle.rete_net.proofs.laws.a_network_that_stands_is_its_programs.Goals as goal

pub returns-clause-network : goal.returns-clause-network
returns-clause-network c p net s forgotten stands = network_of p net s forgotten stands

pub returns-clause-rules : goal.returns-clause-rules
returns-clause-rules c p net is = rules_counted p net is
