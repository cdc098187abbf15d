use Rattle.candidate_source.proofs.Sharing.{forget_at_law}
use Rattle.candidate_source.proofs.laws.what_is_forgotten_is_handed_to_one.Goals as goal

pub returns : goal.returns
returns c = forget_at_law (Unit {0})
