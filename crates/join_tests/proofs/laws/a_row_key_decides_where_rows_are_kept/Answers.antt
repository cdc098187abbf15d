use Rattle.join_tests.proofs.Siding.{kept_by}
use Rattle.join_tests.proofs.laws.a_row_key_decides_where_rows_are_kept.Goals as goal

pub returns : goal.returns
returns c p look row = kept_by look row p
