use Rattle.condition_rows.proofs.Naming.{rows_named}
use Rattle.condition_rows.proofs.laws.rows_name_versions_of_the_snapshot.Goals as goal

pub returns : goal.returns
returns c = rows_named
