use Rattle.join_tests.proofs.Meeting.{each_meets, values_meet, row_sought, candidate_sought}
use Rattle.join_tests.proofs.laws.what_joins_has_equal_values.Goals as goal

pub returns-clause-each : goal.returns-clause-each
returns-clause-each c = each_meets

pub returns-clause-joined : goal.returns-clause-joined
returns-clause-joined c = values_meet

pub returns-clause-rows : goal.returns-clause-rows
returns-clause-rows c = row_sought

pub returns-clause-candidates : goal.returns-clause-candidates
returns-clause-candidates c = candidate_sought
