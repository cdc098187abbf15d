use Rattle.pattern_gate.proofs.Inside.{rows_named}
use Rattle.pattern_gate.proofs.laws.what_is_inside_is_of_the_candidates.Goals as goal

pub returns : goal.returns
returns c p q s rise who = rows_named p q s rise who
