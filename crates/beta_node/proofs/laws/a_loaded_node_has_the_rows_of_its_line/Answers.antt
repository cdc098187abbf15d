use Rattle.beta_node.proofs.Lines.{node_laden}
use Rattle.beta_node.proofs.laws.a_loaded_node_has_the_rows_of_its_line.Goals as goal

pub returns : goal.returns
returns c p n look t rows extra tags known named some laden = node_laden p look t rows extra known named tags some n laden
