use Rattle.candidate_source.proofs.Sharing.{turn_at_law}
use Rattle.candidate_source.proofs.laws.what_is_handed_to_one_is_enough.Goals as goal

pub returns : goal.returns
returns c = turn_at_law (Unit {0})
