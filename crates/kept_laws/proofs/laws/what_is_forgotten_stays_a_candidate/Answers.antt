use Rattle.kept_laws.proofs.Staying.{there_same, side_same}
use Rattle.kept_laws.proofs.laws.what_is_forgotten_stays_a_candidate.Goals as goal

pub returns-clause-there : goal.returns-clause-there
returns-clause-there c = there_same

pub returns-clause-observed : goal.returns-clause-observed
returns-clause-observed c = side_same
