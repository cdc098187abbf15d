use Rattle.rule_world.proofs.Absence.{absent_later}
use Rattle.rule_world.proofs.laws.absence_stays.Goals as goal

pub returns : goal.returns
returns k p c d f e h = absent_later p c d f e h
