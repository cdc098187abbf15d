use Rattle.condition_rows.proofs.Whole.{by_lines, in_lines}
use Rattle.condition_rows.proofs.laws.rows_are_made_by_lines.Goals as goal

pub returns-clause-rows : goal.returns-clause-rows
returns-clause-rows c = by_lines

pub returns-clause-rule : goal.returns-clause-rule
returns-clause-rule c p s d rule row = in_lines p s d rule.conditions row
