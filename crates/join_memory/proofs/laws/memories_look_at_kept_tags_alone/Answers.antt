use Rattle.join_memory.proofs.Moving.{move_law}
use Rattle.join_memory.proofs.laws.memories_look_at_kept_tags_alone.Goals as goal

pub returns : goal.returns
returns c = move_law (Unit {0})
