use Rattle.candidate_source.proofs.Sharing.{forget_law}
use Rattle.candidate_source.proofs.laws.what_is_forgotten_is_handed.Goals as goal

pub returns : goal.returns
returns c = forget_law (Unit {0})
