use Rattle.kept_laws.proofs.Coming.{row_names_kept}
use Rattle.kept_laws.proofs.laws.rows_that_come_name_what_is_kept.Goals as goal

pub returns : goal.returns
returns c = row_names_kept
