use Rattle.engine.proofs.Pending.{pending_once}
use Rattle.engine.proofs.laws.each_pending_match_stands_once.Goals as goal

pub returns : goal.returns
returns c p w lawful = pending_once p w lawful
