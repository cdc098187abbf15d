use Rattle.join_tests.proofs.Naming.{kept_alike, sought_alike}
use Rattle.join_tests.proofs.laws.a_name_key_decides_where_candidates_are_kept.Goals as goal

pub returns-clause-kept : goal.returns-clause-kept
returns-clause-kept c = kept_alike

pub returns-clause-sought : goal.returns-clause-sought
returns-clause-sought c = sought_alike
