use Rattle.replay.proofs.Tables.{one_report}
use Rattle.replay.proofs.laws.there_is_at_most_one_report.Goals as goal

pub returns : goal.returns
returns c gives fires counts w script r q is also = one_report gives fires counts w script r q is also
