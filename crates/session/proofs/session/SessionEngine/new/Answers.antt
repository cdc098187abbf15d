use Rattle.session.proofs.Answering.{both_ok}
use Rattle.session.proofs.session.SessionEngine.new.Goals as goal

pub returns-clause-stands : goal.returns-clause-stands
returns-clause-stands c = both_ok c.new.result _ _ c.new.ensures.detail c.new.ensures.stands
