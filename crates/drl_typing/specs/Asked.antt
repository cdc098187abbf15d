-- What is asked of each condition of a rule, given what is in sight there, and of each of its actions, given what is in sight
-- behind all conditions.
use Rattle.std.specs.{Prelude.{◌||◌, Bool, List}, List.{list_any}}
use Rattle.drl_grammar.specs.declared.{action.ActTree.{ActTree}, condition.CondTree.{CondTree}, file.{RuleTree.{RuleTree}, TypeTree.{TypeTree}}}
use Rattle.drl_typing.specs.{declared.asked.Asked.{Asked, TheVariants.{LacksField, LacksVariable, HasWrongKind}}, Uses.{any_condition, has_unknown_field}}
use Rattle.drl_typing.specs.{Uses.{has_unknown_variable, action_lacks, action_unseen}, Kinds.{has_wrong_kind, action_misfits}}
use Rattle.drl_scope.specs.Sight.{Sight, Place, begin, sight_of_actions}

abbrev pub asked_of : Asked → List TypeTree → Place → CondTree → Bool
asked_of LacksField types = has_unknown_field types
asked_of LacksVariable types = has_unknown_variable
asked_of HasWrongKind types = has_wrong_kind types

abbrev pub asked_of_action : Asked → List TypeTree → Sight → ActTree → Bool
asked_of_action LacksField types = action_lacks
asked_of_action LacksVariable types = action_unseen
asked_of_action HasWrongKind types = action_misfits types

-- of one of its conditions, or of one of its actions
abbrev pub asked_of_rule : Asked → List TypeTree → RuleTree → Bool
asked_of_rule asked types r =
    any_condition (asked_of asked types) types begin r.conditions || list_any (asked_of_action asked types (sight_of_actions types r.conditions)) r.actions
