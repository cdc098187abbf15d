use Rattle.not_node.proofs.Maturing.{maturity_law}
use Rattle.not_node.proofs.laws.rows_mature_as_their_tuples_do.Goals as goal

pub returns : goal.returns
returns c = maturity_law
