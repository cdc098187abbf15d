use Rattle.candidate_source.proofs.Lent.{lent_apart}
use Rattle.candidate_source.proofs.laws.what_is_lent_stays_apart.Goals as goal

pub returns : goal.returns
returns c = lent_apart
