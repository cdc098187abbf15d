use Rattle.beta_node.proofs.Moved.{node_moves}
use Rattle.beta_node.proofs.laws.a_node_looks_at_its_snapshot_alone.Goals as goal

pub returns : goal.returns
returns c p node look other s rows forgotten known known_other named = node_moves p look other s rows forgotten known known_other named node
