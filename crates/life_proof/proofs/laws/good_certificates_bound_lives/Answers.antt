use Rattle.life_proof.proofs.Bounding.{bounds_hold, good_is_safe, lives_suffice}
use Rattle.life_proof.proofs.laws.good_certificates_bound_lives.Goals as goal

pub returns-clause-bounds : goal.returns-clause-bounds
returns-clause-bounds c = bounds_hold

pub returns-clause-lives : goal.returns-clause-lives
returns-clause-lives c = lives_suffice

pub returns-clause-safe : goal.returns-clause-safe
returns-clause-safe c = good_is_safe
