use Rattle.condition_rows.proofs.Whole.{one_more}
use Rattle.condition_rows.proofs.laws.one_condition_more.Goals as goal

pub returns : goal.returns
returns c = one_more
