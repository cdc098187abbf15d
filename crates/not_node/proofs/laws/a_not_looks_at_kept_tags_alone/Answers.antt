use Rattle.not_node.proofs.Lawful.{move_law}
use Rattle.not_node.proofs.laws.a_not_looks_at_kept_tags_alone.Goals as goal

pub returns : goal.returns
returns c = move_law
