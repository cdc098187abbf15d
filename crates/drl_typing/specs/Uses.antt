-- Types, fields and variables that are used and are not there.
use Rattle.std.specs.{Prelude.{ℕ, ◌||◌, Bool, true, false, not, List, [], ◌∷◌, Option, Some, None, is_some}, List.{list_any}}
use Rattle.drl_lex.specs.declared.token.Rel.{Rel}
use Rattle.drl_expr.specs.Tree.{Tree, lit, var, var_field, neg, add, sub, mul}
use Rattle.drl_grammar.specs.declared.action.ActTree.{ActTree}
use Rattle.drl_grammar.specs.declared.action.ActTree.TheVariants as action
use Rattle.drl_grammar.specs.declared.condition.CondTree.{CondTree}
use Rattle.drl_grammar.specs.declared.condition.CondTree.TheVariants as condition
use Rattle.drl_grammar.specs.declared.condition.{SourceTree.{SourceTree}, Part.{Part}}
use Rattle.drl_grammar.specs.declared.condition.Part.TheVariants as part
use Rattle.drl_grammar.specs.declared.condition.Cmp.{Cmp}
use Rattle.drl_grammar.specs.declared.condition.Cmp.TheVariants as cmp
use Rattle.drl_grammar.specs.declared.condition.Operand.{Operand}
use Rattle.drl_grammar.specs.declared.condition.Operand.TheVariants as operand
use Rattle.drl_grammar.specs.declared.file.TypeTree.{TypeTree}
use Rattle.drl_scope.specs.{Declarations.{type_tree_named}, Meanings.{lacks, lacks_for}, Operands.{any_of_cmp, any_of_part, any_leaf_of}, Sight.{Sight}}
use Rattle.drl_scope.specs.Sight.{meaning_of, Place, behind, is_bound_by}

-- whether one of the conditions has this, given what is in sight there
unfoldable pub any_condition : (Place → CondTree → Bool) → List TypeTree → Place → List CondTree → Bool
any_condition test types place [] = false
any_condition test types place (c ∷ cs) = test place c || any_condition test types (behind types place c) cs

-- ---- types

abbrev pub is_type_unknown : List TypeTree → CondTree → Bool
is_type_unknown types (condition.Plain s) = not (is_some (type_tree_named types s.ty))
is_type_unknown types (condition.Negated s) = not (is_some (type_tree_named types s.ty))
is_type_unknown types (condition.Existing s) = not (is_some (type_tree_named types s.ty))
is_type_unknown types (condition.Folded result s kind arg tests) = not (is_some (type_tree_named types s.ty))

abbrev pub has_unknown_type : List TypeTree → List CondTree → Bool
has_unknown_type types cs = list_any (is_type_unknown types) cs

abbrev pub inserts_unknown_type : List TypeTree → ActTree → Bool
inserts_unknown_type types (action.Insert ty args) = not (is_some (type_tree_named types ty))
inserts_unknown_type types (action.Modify v sets) = false
inserts_unknown_type types (action.Retract v) = false

-- ---- fields

-- a field of the pattern's type, or of a fact variable in sight
abbrev pub operand_lacks : TypeTree → Sight → Operand → Bool
operand_lacks t sight (operand.Own f) = lacks t f
operand_lacks t sight (operand.VarField v f) = lacks_for (meaning_of sight v) f
operand_lacks t sight (operand.Lit l) = false
operand_lacks t sight (operand.Var v) = false

abbrev pub cmp_field : Cmp → List ℕ
cmp_field (cmp.Rel f r o) = f
cmp_field (cmp.OneOf f os) = f

abbrev pub cmp_lacks : TypeTree → Sight → Cmp → Bool
cmp_lacks t sight c = lacks t (cmp_field c) || any_of_cmp (operand_lacks t sight) c

abbrev pub part_lacks : TypeTree → Sight → Part → Bool
part_lacks t sight (part.Bind v f) = lacks t f
part_lacks t sight (part.Temporal op params other) = false
part_lacks t sight (part.AnyOf groups) = list_any (λ (group : List Cmp). list_any (cmp_lacks t sight) group) groups

abbrev pub source_lacks : Option TypeTree → Sight → SourceTree → Bool
source_lacks None sight s = false
source_lacks (Some t) sight s = list_any (part_lacks t sight) s.parts

-- an operand of a test of a result, which has no field of its own
abbrev pub result_operand_lacks : Sight → Operand → Bool
result_operand_lacks sight (operand.Own f) = true
result_operand_lacks sight (operand.VarField v f) = lacks_for (meaning_of sight v) f
result_operand_lacks sight (operand.Lit l) = false
result_operand_lacks sight (operand.Var v) = false

abbrev pub test_lacks : Sight → Rel × Operand → Bool
test_lacks sight test = result_operand_lacks sight test.1

abbrev pub has_unknown_field : List TypeTree → Place → CondTree → Bool
has_unknown_field types place (condition.Plain s) = source_lacks (type_tree_named types s.ty) place.sight s
has_unknown_field types place (condition.Negated s) = source_lacks (type_tree_named types s.ty) place.sight s
has_unknown_field types place (condition.Existing s) = source_lacks (type_tree_named types s.ty) place.sight s
has_unknown_field types place (condition.Folded result s kind arg tests) = source_lacks (type_tree_named types s.ty) place.sight s || list_any (test_lacks place.sight) tests

-- a field of a fact variable in sight, in an expression
abbrev pub leaf_lacks : Sight → Tree → Bool
leaf_lacks sight (var_field v f) = lacks_for (meaning_of sight v) f
leaf_lacks sight (lit l) = false
leaf_lacks sight (var v) = false
leaf_lacks sight (neg a) = false
leaf_lacks sight (add a b) = false
leaf_lacks sight (sub a b) = false
leaf_lacks sight (mul a b) = false

-- a field that is assigned
abbrev pub assigned_lacks : Sight → ActTree → Bool
assigned_lacks sight (action.Modify v sets) = list_any (λ (set : List ℕ × Tree). lacks_for (meaning_of sight v) set.0) sets
assigned_lacks sight (action.Insert ty args) = false
assigned_lacks sight (action.Retract v) = false

abbrev pub action_lacks : Sight → ActTree → Bool
action_lacks sight a = assigned_lacks sight a || any_leaf_of (leaf_lacks sight) a

-- ---- variables

abbrev pub is_unseen : Sight → List ℕ → Bool
is_unseen sight v = not (is_some (meaning_of sight v))

abbrev pub leaf_unseen : Sight → Tree → Bool
leaf_unseen sight (var v) = is_unseen sight v
leaf_unseen sight (var_field v f) = is_unseen sight v
leaf_unseen sight (lit l) = false
leaf_unseen sight (neg a) = false
leaf_unseen sight (add a b) = false
leaf_unseen sight (sub a b) = false
leaf_unseen sight (mul a b) = false

-- the variable of the fact that is changed or taken away
abbrev pub target_unseen : Sight → ActTree → Bool
target_unseen sight (action.Insert ty args) = false
target_unseen sight (action.Modify v sets) = is_unseen sight v
target_unseen sight (action.Retract v) = is_unseen sight v

abbrev pub action_unseen : Sight → ActTree → Bool
action_unseen sight a = target_unseen sight a || any_leaf_of (leaf_unseen sight) a

abbrev pub operand_unseen : Sight → Operand → Bool
operand_unseen sight (operand.Var v) = is_unseen sight v
operand_unseen sight (operand.VarField v f) = is_unseen sight v
operand_unseen sight (operand.Lit l) = false
operand_unseen sight (operand.Own f) = false

-- the variable of the other event of a temporal test, or one of an operand
abbrev pub part_unseen : Sight → Part → Bool
part_unseen sight (part.Bind v f) = false
part_unseen sight (part.Temporal op params other) = is_unseen sight other
part_unseen sight (part.AnyOf groups) = any_of_part (operand_unseen sight) (part.AnyOf groups)

abbrev pub source_unseen : Sight → SourceTree → Bool
source_unseen sight s = list_any (part_unseen sight) s.parts

abbrev pub test_unseen : Sight → Rel × Operand → Bool
test_unseen sight test = operand_unseen sight test.1

-- The argument of an accumulate sees what its own pattern binds, and nothing else; tests of a result see what is in sight at the
-- condition, and so not the result itself.

abbrev pub has_unknown_variable : Place → CondTree → Bool
has_unknown_variable place (condition.Plain s) = source_unseen place.sight s
has_unknown_variable place (condition.Negated s) = source_unseen place.sight s
has_unknown_variable place (condition.Existing s) = source_unseen place.sight s
has_unknown_variable place (condition.Folded result s kind arg tests) = source_unseen place.sight s || not (is_bound_by s arg) || list_any (test_unseen place.sight) tests
