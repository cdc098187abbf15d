use Rattle.sozhipen.proofs.Worlds.{worlds_kept}
use Rattle.sozhipen.proofs.run.Goals as goal

pub returns-clause-goes_on : goal.returns-clause-goes_on
returns-clause-goes_on g c = c.replay.ensures.goes_on worlds_kept

pub returns-clause-refused_on : goal.returns-clause-refused_on
returns-clause-refused_on g c = c.replay.ensures.refused_on worlds_kept

pub returns-clause-taken_again : goal.returns-clause-taken_again
returns-clause-taken_again g c = c.replay.ensures.taken_again worlds_kept
