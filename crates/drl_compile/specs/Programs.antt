-- The program of a file. Each name has a place in what was declared; a name that was not declared, which no accepted file
-- has, counts as the first.
use Rattle.std.specs.Prelude.{ℕ, ℤ, min, Bool, true, false, not, List, [], ◌∷◌, map, pos, negsuc, Option, Some, None, option_map, if◌then◌else◌}
use Rattle.std.specs.{List.{filter, flat_map}, Option.{option_and_then}, Str.{bytes_eq}}
use Rattle.fx_base.specs.declared.kind.Kind.{Kind}
use Rattle.fx_base.specs.declared.kind.Kind.TheVariants as kind
use Rattle.fx_base.specs.declared.value.Value.{Value}
use Rattle.fx_base.specs.declared.value.Value.TheVariants as value
use Rattle.fold_fn.specs.declared.kind.FoldKind.{FoldKind}
use Rattle.fold_fn.specs.declared.kind.FoldKind.TheVariants as function
use Rattle.temporal_ops.specs.declared.edge.OpEdge.{OpEdge}
use Rattle.drl_lex.specs.declared.token.Rel.{Rel}
use Rattle.drl_lex.specs.declared.token.Rel.TheVariants as rel
use Rattle.drl_expr.specs.declared.literal.LitTree.{LitTree}
use Rattle.drl_expr.specs.declared.literal.LitTree.TheVariants as literal
use Rattle.drl_expr.specs.Tree.{Tree, lit, var, var_field, neg, add, sub, mul}
use Rattle.drl_grammar.specs.declared.action.ActTree.{ActTree}
use Rattle.drl_grammar.specs.declared.action.ActTree.TheVariants as act
use Rattle.drl_grammar.specs.declared.condition.CondTree.{CondTree}
use Rattle.drl_grammar.specs.declared.condition.CondTree.TheVariants as tree
use Rattle.drl_grammar.specs.declared.condition.{SourceTree.{SourceTree}, WindowTree.{WindowTree}}
use Rattle.drl_grammar.specs.declared.condition.WindowTree.TheVariants as window
use Rattle.drl_grammar.specs.declared.condition.FoldWord.{FoldWord}
use Rattle.drl_grammar.specs.declared.condition.FoldWord.TheVariants as fold
use Rattle.drl_grammar.specs.declared.condition.Part.{Part}
use Rattle.drl_grammar.specs.declared.condition.Part.TheVariants as part
use Rattle.drl_grammar.specs.declared.condition.Cmp.{Cmp}
use Rattle.drl_grammar.specs.declared.condition.Cmp.TheVariants as cmp
use Rattle.drl_grammar.specs.declared.condition.Operand.{Operand}
use Rattle.drl_grammar.specs.declared.condition.Operand.TheVariants as operand
use Rattle.drl_grammar.specs.declared.file.Attr.{Attr}
use Rattle.drl_grammar.specs.declared.file.Attr.TheVariants as attr
use Rattle.drl_grammar.specs.declared.file.{File.{File}, Item.{Item}, TypeTree.{TypeTree}, RuleTree.{RuleTree}}
use Rattle.rule_model.specs.Expressions.{Expression, bound, folded}
use Rattle.rule_model.specs.Expressions as expression
use Rattle.rule_model.specs.declared.{action.Action.{Action, TheVariants.{Insert, Modify, Retract}}, program.{Program.{Program}, TypeInfo.{TypeInfo}}}
use Rattle.rule_model.specs.declared.{program.{EntryInfo.{EntryInfo}, Rule.{Rule}}, condition.Condition.{Condition, TheVariants.{Plain, Negated, Existing}}}
use Rattle.rule_model.specs.declared.condition.{Condition.TheVariants.{Folded}, Accumulate.{Accumulate}, Pattern.{Pattern}, WindowTag.{WindowTag}}
use Rattle.rule_model.specs.declared.{condition.WindowTag.TheVariants.{Whole, Time, Length}, test.{Test.{Test}, Compare.{Compare}, RelTag.{RelTag}}}
use Rattle.rule_model.specs.declared.test.RelTag.TheVariants as tag
use Rattle.rule_model.specs.declared.test.{Side.{Side, TheVariants.{Lit, Own, Of, Result}}, TimeTest.{TimeTest}, ResultTest.{ResultTest}}
use Rattle.drl_scope.specs.{Names.{place_of_name}, Declarations.{types_of, rules_of, type_names, field_names, type_tree_named, kind_by_word}}
use Rattle.drl_scope.specs.{Annotations.{is_tree_of_events, timestamp_of, duration_field_of, declared_expiry, reference_of}, EntryPoints.{entry_names}}
use Rattle.drl_scope.specs.{EntryPoints.{lateness_named}, Sight.{Sight, Meaning, of_fact, of_field, of_result, meaning_of, Place, begin, behind}}
use Rattle.drl_scope.specs.{Sight.{sight_of_actions}, Operands.{any_of_part}}
use Rattle.drl_compile.specs.{Observed.{observed_names, is_observed_event}, Operators.{operator_of}}

-- a place as a number of 8 or 16 bits; types and entry points have 16
abbrev pub small_place : Option ℕ → ℕ
small_place None = 0
small_place (Some k) = min k 255

abbrev pub type_place : Option ℕ → ℕ
type_place None = 0
type_place (Some k) = min k 65535

abbrev pub field_place : TypeTree → List ℕ → ℕ
field_place t f = small_place (place_of_name (field_names t) f)

-- ---- types

-- a kind word that is none of the seven, which no accepted file has, counts as whole numbers
abbrev pub kind_or_int : Option Kind → Kind
kind_or_int None = kind.Int
kind_or_int (Some k) = k

abbrev pub field_info : List ℕ × List ℕ → List ℕ × Kind
field_info field = (field.0, kind_or_int (kind_by_word field.1))

-- given the names of the types that the rules of the file observe
abbrev pub type_info : List (List ℕ) → TypeTree → TypeInfo
type_info observed t = record {
  name = t.name;
  event = is_tree_of_events t;
  reference = reference_of t.metas;
  fields = map field_info t.fields;
  timestamp = option_map (field_place t) (timestamp_of t.metas);
  duration = option_map (field_place t) (duration_field_of t.metas);
  expires = declared_expiry t.metas;
  observed = is_observed_event observed t;
}

-- ---- entry points, given the items of the file

abbrev pub entry_info : List Item → List ℕ → EntryInfo
entry_info items name = record { name = name; lateness = lateness_named items name }

-- the place of the entry point that a pattern names; without a name it is the default one
abbrev pub entry_place : List (List ℕ) → Option (List ℕ) → ℕ
entry_place entries None = 0
entry_place entries (Some name) = type_place (place_of_name entries name)

-- ---- tests

abbrev pub rel_tag : Rel → RelTag
rel_tag rel.Equal = tag.Equal
rel_tag rel.NotEqual = tag.NotEqual
rel_tag rel.Less = tag.Less
rel_tag rel.LessOrEqual = tag.LessOrEqual
rel_tag rel.Greater = tag.Greater
rel_tag rel.GreaterOrEqual = tag.GreaterOrEqual

abbrev pub literal_value : LitTree → Value
literal_value (literal.Int n) = value.Int n
literal_value (literal.Bool b) = value.Bool b
literal_value (literal.Text s) = value.Text s

-- a variable that is no value counts as the first field of the pattern
abbrev pub variable_side : Option Meaning → Side
variable_side (Some (of_field fact field k)) = Of (min fact 255) (min field 255)
variable_side (Some (of_fact fact t)) = Own 0
variable_side (Some (of_result result)) = Result (min result 255)
variable_side None = Own 0

-- a field of a variable that is no fact counts as the first field of the pattern
abbrev pub variable_field_side : Option Meaning → List ℕ → Side
variable_field_side (Some (of_fact fact t)) f = Of (min fact 255) (field_place t f)
variable_field_side (Some (of_field fact field k)) f = Own 0
variable_field_side (Some (of_result result)) f = Own 0
variable_field_side None f = Own 0

abbrev pub side_of : TypeTree → Sight → Operand → Side
side_of t sight (operand.Lit l) = Lit (literal_value l)
side_of t sight (operand.Own f) = Own (field_place t f)
side_of t sight (operand.Var v) = variable_side (meaning_of sight v)
side_of t sight (operand.VarField v f) = variable_field_side (meaning_of sight v) f

abbrev pub compare_of : TypeTree → Sight → Cmp → Compare
compare_of t sight (cmp.Rel f r o) = record { field = field_place t f; rel = rel_tag r; against = side_of t sight o ∷ [] }
compare_of t sight (cmp.OneOf f os) = record { field = field_place t f; rel = tag.OneOf; against = map (side_of t sight) os }

abbrev pub test_of : TypeTree → Sight → List (List Cmp) → Test
test_of t sight groups = record { choices = map (λ (group : List Cmp). map (compare_of t sight) group) groups }

-- the test of values that a part is, where it is one
abbrev pub tests_in : TypeTree → Sight → Part → List Test
tests_in t sight (part.Bind v f) = []
tests_in t sight (part.Temporal op params other) = []
tests_in t sight (part.AnyOf groups) = test_of t sight groups ∷ []

abbrev pub is_variable : Operand → Bool
is_variable (operand.Lit l) = false
is_variable (operand.Own f) = false
is_variable (operand.Var v) = true
is_variable (operand.VarField v f) = true

-- a test that names a variable is no constant one
abbrev pub is_joined : Part → Bool
is_joined p = any_of_part is_variable p

abbrev pub is_constant : Part → Bool
is_constant p = not (is_joined p)

-- the number of the fact that a variable means, and its type; a variable that is no fact counts as the first, of no fields
abbrev pub fact_meant : Option Meaning → ℕ
fact_meant (Some (of_fact fact t)) = min fact 255
fact_meant (Some (of_field fact field k)) = 0
fact_meant (Some (of_result result)) = 0
fact_meant None = 0

abbrev pub no_type : TypeTree
no_type = record { name = []; metas = []; fields = [] }

abbrev pub type_meant : Option Meaning → TypeTree
type_meant (Some (of_fact fact t)) = t
type_meant (Some (of_field fact field k)) = no_type
type_meant (Some (of_result result)) = no_type
type_meant None = no_type

-- a temporal test, where there is its operator
abbrev pub time_test : ℕ → Option (List OpEdge) → List TimeTest
time_test fact None = []
time_test fact (Some op) = record { op = op; fact = fact } ∷ []

-- the temporal test that a part is, where it is one
abbrev pub time_tests_in : Sight → Part → List TimeTest
time_tests_in sight (part.Bind v f) = []
time_tests_in sight (part.Temporal word params other) = time_test (fact_meant (meaning_of sight other)) (operator_of word params)
time_tests_in sight (part.AnyOf groups) = []

-- ---- windows; a count below 0, which no accepted file has, counts as 0

abbrev pub count_meant : ℤ → ℕ
count_meant (pos n) = n
count_meant (negsuc n) = 0

abbrev pub window_meant : Option WindowTree → WindowTag
window_meant None = Whole
window_meant (Some (window.Time span)) = Time span
window_meant (Some (window.Length count)) = Length (count_meant count)

-- ---- accumulates

abbrev pub fold_kind : FoldWord → FoldKind
fold_kind fold.Count = function.Count
fold_kind fold.Sum = function.Sum
fold_kind fold.Min = function.Least
fold_kind fold.Max = function.Greatest
fold_kind fold.Average = function.Average

abbrev pub field_bound_with : List ℕ → Part → Option (List ℕ) → Option (List ℕ)
field_bound_with v (part.Bind name f) others = if bytes_eq name v then Some f else others
field_bound_with v (part.Temporal word params other) others = others
field_bound_with v (part.AnyOf groups) others = others

-- the field to which the first of these parts that binds the variable binds it
abbrev pub field_bound : List ℕ → List Part → Option (List ℕ)
field_bound v [] = None
field_bound v (p ∷ parts) = field_bound_with v p (field_bound v parts)

-- The place of the field whose values a function takes: that to which its own pattern binds the variable, for a count too. The variable
-- of the fact itself has none, and neither has what no accepted file has: a variable that is not bound there, or a field that is not
-- declared.
abbrev pub argument_place : TypeTree → SourceTree → List ℕ → Option ℕ
argument_place t s v = option_map (λ k. min k 255) (option_and_then (place_of_name (field_names t)) (field_bound v s.parts))

-- what a result is compared with; it has no fields, so that one, which no accepted file has, counts as 0
abbrev pub result_side : Sight → Operand → Side
result_side sight (operand.Lit l) = Lit (literal_value l)
result_side sight (operand.Own f) = Lit (value.Int (pos 0))
result_side sight (operand.Var v) = variable_side (meaning_of sight v)
result_side sight (operand.VarField v f) = variable_field_side (meaning_of sight v) f

abbrev pub result_test : Sight → Rel × Operand → ResultTest
result_test sight test = record { rel = rel_tag test.0; against = result_side sight test.1 }

-- ---- rules, given the types and the entry points of the file

abbrev pub pattern_in : TypeTree → ℕ → ℕ → Sight → SourceTree → Pattern
pattern_in t ty entry sight s = record {
  ty = record { 0 = ty };
  entry = record { 0 = entry };
  window = window_meant s.window;
  alone = flat_map (tests_in t sight) (filter is_constant s.parts);
  joined = flat_map (tests_in t sight) (filter is_joined s.parts);
  times = flat_map (time_tests_in sight) s.parts;
}

abbrev pub type_or_none : Option TypeTree → TypeTree
type_or_none None = no_type
type_or_none (Some t) = t

abbrev pub pattern_meant : List TypeTree → List (List ℕ) → Sight → SourceTree → Pattern
pattern_meant types entries sight s =
    pattern_in (type_or_none (type_tree_named types s.ty)) (type_place (place_of_name (type_names types) s.ty)) (entry_place entries s.entry) sight s

abbrev pub accumulate_of : List TypeTree → List (List ℕ) → Sight → SourceTree → FoldWord → List ℕ → List (Rel × Operand) → Accumulate
accumulate_of types entries sight s kind arg tests = record {
  pattern = pattern_meant types entries sight s;
  kind = fold_kind kind;
  arg = argument_place (type_or_none (type_tree_named types s.ty)) s arg;
  tests = map (result_test sight) tests;
}

abbrev pub condition_meant : List TypeTree → List (List ℕ) → Place → CondTree → Condition
condition_meant types entries place (tree.Plain s) = Plain (pattern_meant types entries place.sight s)
condition_meant types entries place (tree.Negated s) = Negated (pattern_meant types entries place.sight s)
condition_meant types entries place (tree.Existing s) = Existing (pattern_meant types entries place.sight s)
condition_meant types entries place (tree.Folded result s kind arg tests) = Folded (accumulate_of types entries place.sight s kind arg tests)

unfoldable pub conditions_meant : List TypeTree → List (List ℕ) → Place → List CondTree → List Condition
conditions_meant types entries place [] = []
conditions_meant types entries place (c ∷ cs) = condition_meant types entries place c ∷ conditions_meant types entries (behind types place c) cs

-- ---- actions, given what is in sight behind all conditions

-- a variable that is no value counts as 0
abbrev pub variable_value : Option Meaning → Expression
variable_value (Some (of_field fact field k)) = bound (min fact 255) (min field 255)
variable_value (Some (of_fact fact t)) = expression.lit (value.Int (pos 0))
variable_value (Some (of_result result)) = folded (min result 255)
variable_value None = expression.lit (value.Int (pos 0))

-- a field of a variable that is no fact counts as 0
abbrev pub variable_field_value : Option Meaning → List ℕ → Expression
variable_field_value (Some (of_fact fact t)) f = bound (min fact 255) (field_place t f)
variable_field_value (Some (of_field fact field k)) f = expression.lit (value.Int (pos 0))
variable_field_value (Some (of_result result)) f = expression.lit (value.Int (pos 0))
variable_field_value None f = expression.lit (value.Int (pos 0))

abbrev pub expression_in : Sight → Tree → Expression
expression_in sight (lit l) = expression.lit (literal_value l)
expression_in sight (var v) = variable_value (meaning_of sight v)
expression_in sight (var_field v f) = variable_field_value (meaning_of sight v) f
expression_in sight (neg a) = expression.neg (expression_in sight a)
expression_in sight (add a b) = expression.add (expression_in sight a) (expression_in sight b)
expression_in sight (sub a b) = expression.sub (expression_in sight a) (expression_in sight b)
expression_in sight (mul a b) = expression.mul (expression_in sight a) (expression_in sight b)

abbrev pub set_in : TypeTree → Sight → List ℕ × Tree → ℕ × Expression
set_in t sight set = (field_place t set.0, expression_in sight set.1)

abbrev pub action_of : List TypeTree → Sight → ActTree → Action
action_of types sight (act.Insert ty args) = Insert (record { 0 = type_place (place_of_name (type_names types) ty) }) (map (expression_in sight) args)
action_of types sight (act.Modify v sets) = Modify (fact_meant (meaning_of sight v)) (map (set_in (type_meant (meaning_of sight v)) sight) sets)
action_of types sight (act.Retract v) = Retract (fact_meant (meaning_of sight v))

-- the salience that is written, or 0
abbrev pub salience_with : Attr → ℤ → ℤ
salience_with (attr.Salience n) others = n
salience_with (attr.Dialect s) others = others

abbrev pub salience_meant : List Attr → ℤ
salience_meant [] = pos 0
salience_meant (a ∷ attrs) = salience_with a (salience_meant attrs)

abbrev pub rule_of : List TypeTree → List (List ℕ) → RuleTree → Rule
rule_of types entries r = record {
  name = r.name;
  salience = salience_meant r.attrs;
  conditions = conditions_meant types entries begin r.conditions;
  actions = map (action_of types (sight_of_actions types r.conditions)) r.actions;
}

-- given the types of the file and the names of its entry points
abbrev pub program_with : List TypeTree → List (List ℕ) → List Item → Program
program_with types entries items = record {
  types = map (type_info (observed_names (rules_of items))) (types_of items);
  entries = map (entry_info items) entries;
  rules = map (rule_of types entries) (rules_of items);
}

abbrev pub program_of : File → Program
program_of file = program_with (types_of file.items) (entry_names file.items) file.items

-- the program of types alone: no rules, no entry points, and no type that is flagged as observed
abbrev pub types_alone : List TypeTree → Program
types_alone types = record { types = map (type_info []) types; entries = []; rules = [] }
