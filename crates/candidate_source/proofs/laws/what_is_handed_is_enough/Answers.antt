use Rattle.candidate_source.proofs.Sharing.{turn_law}
use Rattle.candidate_source.proofs.laws.what_is_handed_is_enough.Goals as goal

pub returns : goal.returns
returns c = turn_law (Unit {0})
