-- What one condition more at the end makes of the rows of the conditions before it, read backward from a row: for each kind of
-- condition one line.
use Rattle.std.specs.{Prelude.{◌&&◌, not, Bool, false, ℤ, List, [], Option, Some, None}, List.{fold}, Ordering.{eq_by_cmp, int_eq}}
use Rattle.row_delta.specs.{declared.row.Row.{Row}, Rows.{row_cmp}}
use Rattle.rule_model.specs.declared.condition.{Accumulate.{Accumulate}, Condition.{Condition, TheVariants.{Plain, Negated, Existing, Folded}}}
use Rattle.rule_model.specs.{declared.{condition.Pattern.{Pattern}, program.Program.{Program}}, Lent.{bound_in}, Maturity.{is_mature}, Rows.{result_of}}
use Rattle.rule_model.specs.{Snapshots.{Snapshot, floor}, Tests.{results_hold}}
use Rattle.join_tests.specs.Joins.{joins}
use Rattle.join_memory.specs.{Joined.{joined}, Valued.{valued}}
use Rattle.condition_rows.specs.Sets.{held, candidates_of, has_partner, partners}

-- ---- what a condition asks of a row

-- what the row has bound is mature for the negative pattern
unfoldable pub is_ripe : Program → Pattern → Snapshot → Row → Bool
is_ripe p pattern s row = is_mature p pattern (bound_in (held s) row) (floor p s pattern.entry.0)

-- the value is what there is
abbrev pub is_result : Option ℤ → ℤ → Bool
is_result None v = false
is_result (Some n) v = int_eq n v

-- the value is the result of the function over the candidates that join the row, and its tests hold
unfoldable pub gives : Program → Accumulate → Snapshot → Row → ℤ → Bool
gives p a s row v = is_result (result_of a (partners p a.pattern s row)) v && results_hold (bound_in (held s) row) v a.tests

-- ---- the lines

-- The rows with one condition more, of the rows without it. A pattern: without its last fact a row is one of them, and that fact is a
-- candidate that joins it. `not`: the row is one of them, no candidate joins it, and it is mature. `exists`: the row is one of them,
-- and some candidate joins it. `accumulate`: without its last value the row is one of them, and that value is the result over the
-- candidates that join it, whose tests hold.
abbrev pub line : Program → Snapshot → Condition → (Row → Bool) → Row → Bool
line p s (Plain pattern) left row = joined (joins pattern (held s)) left (candidates_of p pattern s) row
line p s (Negated pattern) left row = left row && (not (has_partner p pattern s row) && is_ripe p pattern s row)
line p s (Existing pattern) left row = left row && has_partner p pattern s row
line p s (Folded a) left row = valued (λ without v. left without && gives p a s without v) row

-- the row that names nothing
abbrev pub empty_row : Row
empty_row = record { facts = []; values = [] }

-- the set that has the empty row alone
abbrev pub is_empty_row : Row → Bool
is_empty_row row = eq_by_cmp row_cmp row empty_row

-- the lines of conditions, one after the other, from the empty row alone
unfoldable pub lines : Program → Snapshot → List Condition → Row → Bool
lines p s conditions = fold (λ left condition. line p s condition left) is_empty_row conditions
