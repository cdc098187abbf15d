use Rattle.kept_laws.proofs.Later.{was_kept, still_forgotten, forgotten_fired}
use Rattle.kept_laws.proofs.laws.what_is_forgotten_stays_forgotten.Goals as goal

pub returns-clause-kept : goal.returns-clause-kept
returns-clause-kept c = was_kept

pub returns-clause-step : goal.returns-clause-step
returns-clause-step c = still_forgotten

pub returns-clause-firing : goal.returns-clause-firing
returns-clause-firing c = forgotten_fired
