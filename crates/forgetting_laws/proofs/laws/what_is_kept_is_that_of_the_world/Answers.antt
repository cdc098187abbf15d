use Rattle.forgetting_laws.proofs.Agreeing.{same_kept, same_clean, plain_endless, expired_endless, modify_endless}
use Rattle.forgetting_laws.proofs.laws.what_is_kept_is_that_of_the_world.Goals as goal

pub returns : goal.returns
returns c = record { kept = same_kept; clean = same_clean; plain = plain_endless; expired = expired_endless; modified = modify_endless }
