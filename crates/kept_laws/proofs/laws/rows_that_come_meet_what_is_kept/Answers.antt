use Rattle.kept_laws.proofs.Coming.{row_meets_kept}
use Rattle.kept_laws.proofs.laws.rows_that_come_meet_what_is_kept.Goals as goal

pub returns : goal.returns
returns c = row_meets_kept
