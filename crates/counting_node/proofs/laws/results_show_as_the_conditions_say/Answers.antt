use Rattle.counting_node.proofs.Lawful.{gathered_shown}
use Rattle.counting_node.proofs.laws.results_show_as_the_conditions_say.Goals as goal

pub returns : goal.returns
returns c a = gathered_shown a
