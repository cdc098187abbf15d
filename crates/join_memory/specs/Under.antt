-- Rows and candidates that are looked for under one value.
use Rattle.std.specs.{Prelude.{◌&&◌, Bool, true, List, Option, Some, None}, Option.{is_some, option_and_then}, declared.cmp.Ordering.{Ordering}}
use Rattle.std.specs.{BTreeMap.{is_at}, Map.{lookup}}
use Rattle.fx_base.specs.{declared.value.Value.{Value}, Values.{same_value}}
use Rattle.row_delta.specs.declared.row.{Named.{Named}, Row.{Row}}
use Rattle.rule_model.specs.declared.condition.Pattern.{Pattern}
use Rattle.join_tests.specs.{Joins.{Look, joins}, Kept.{row_value, candidate_value}}

-- the value is that which is asked for, where one is
abbrev pub is_under : Option Value → Value → Bool
is_under None v = true
is_under (Some under) v = same_value v under

-- the candidate joins the row, and the row has the join value that is asked for
abbrev pub row_joins : Pattern → Look → Option Value → Row → Named → Bool
row_joins p look under row who = joins p look row who && is_under under (row_value p look row)

-- the candidate joins the row, and has the join value that is asked for
abbrev pub name_joins : Pattern → Look → Option Value → Row → Named → Bool
name_joins p look under row who = joins p look row who && is_under under (candidate_value p look who)

-- whether a bucket, where there is one, has a key
abbrev pub stands_in : {K S : Type 0} → (K → K → Ordering) → Option (List (K × S)) → K → Bool
stands_in order bucket k = is_some (option_and_then (lookup (is_at (order k))) bucket)
