use Rattle.life_proof.proofs.Asked.{asked_is, is_asked}
use Rattle.life_proof.proofs.laws.what_is_asked_is_listed.Goals as goal

pub returns : goal.returns
returns c p table a = (asked_is p table a, is_asked p table a)
