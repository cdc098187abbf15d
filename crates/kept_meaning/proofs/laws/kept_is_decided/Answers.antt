use Rattle.kept_meaning.proofs.Decided.{kept_decided, kept_listed}
use Rattle.kept_meaning.proofs.laws.kept_is_decided.Goals as goal

pub returns-clause-fact : goal.returns-clause-fact
returns-clause-fact c = kept_decided

pub returns-clause-facts : goal.returns-clause-facts
returns-clause-facts c = kept_listed
