use Rattle.not_node.proofs.Lawful.{drop_law}
use Rattle.not_node.proofs.laws.what_is_dropped_names_an_old_fact.Goals as goal

pub returns : goal.returns
returns c = drop_law
