-- The limits of a rule file: how many there may be of a thing, how long names and texts are, how large numbers.
use Rattle.std.specs.{Prelude.{ℕ, ℤ, ◌&&◌, Bool, true, false, not, List, length, nat_le, nat_lt, Option, Some, None, unsigned_abs, sum_by}, List.{list_all}}
use Rattle.fx_base.specs.declared.limits.TheConstants.{MOST_MILLIS, TEXT_MAX}
use Rattle.drl_lex.specs.declared.token.Rel.{Rel}
use Rattle.drl_expr.specs.declared.literal.LitTree.{LitTree}
use Rattle.drl_expr.specs.declared.literal.LitTree.TheVariants as literal
use Rattle.drl_expr.specs.Tree.{Tree, lit, var, var_field, neg, add, sub, mul}
use Rattle.drl_grammar.specs.declared.action.ActTree.{ActTree}
use Rattle.drl_grammar.specs.declared.action.ActTree.TheVariants as action
use Rattle.drl_grammar.specs.declared.condition.CondTree.{CondTree}
use Rattle.drl_grammar.specs.declared.condition.CondTree.TheVariants as condition
use Rattle.drl_grammar.specs.declared.condition.{SourceTree.{SourceTree}, WindowTree.{WindowTree}}
use Rattle.drl_grammar.specs.declared.condition.WindowTree.TheVariants as window
use Rattle.drl_grammar.specs.declared.condition.Part.{Part}
use Rattle.drl_grammar.specs.declared.condition.Part.TheVariants as part
use Rattle.drl_grammar.specs.declared.condition.Cmp.{Cmp}
use Rattle.drl_grammar.specs.declared.condition.Cmp.TheVariants as cmp
use Rattle.drl_grammar.specs.declared.condition.Operand.{Operand}
use Rattle.drl_grammar.specs.declared.condition.Operand.TheVariants as operand
use Rattle.drl_grammar.specs.declared.file.Attr.{Attr}
use Rattle.drl_grammar.specs.declared.file.Attr.TheVariants as attr
use Rattle.drl_grammar.specs.declared.file.Body.{Body}
use Rattle.drl_grammar.specs.declared.file.Body.TheVariants as body
use Rattle.drl_grammar.specs.declared.file.{Item.{Item}, Meta.{Meta}}
use Rattle.drl_grammar.specs.declared.file.Meta.TheVariants as meta
use Rattle.drl_grammar.specs.declared.file.{TypeTree.{TypeTree}, RuleTree.{RuleTree}}
use Rattle.drl_scope.specs.{Names.{is_name_short}, Declarations.{types_of, rules_of, field_names}, EntryPoints.{entries_named, with_names, entry_names}}

-- names of types, fields and variables have at most 64 bytes, texts at most 4,096
abbrev pub is_name : List ℕ → Bool
is_name name = is_name_short 64 name

abbrev pub is_text : List ℕ → Bool
is_text text = is_name_short TEXT_MAX text

abbrev pub literal_within : LitTree → Bool
literal_within (literal.Text text) = is_text text
literal_within (literal.Int n) = true
literal_within (literal.Bool b) = true

abbrev pub operand_within : Operand → Bool
operand_within (operand.Lit l) = literal_within l
operand_within (operand.Var v) = is_name v
operand_within (operand.VarField v f) = is_name v && is_name f
operand_within (operand.Own f) = is_name f

-- spans of time have at most 2^53 ms in size
unfoldable pub span_limit : ℕ
span_limit = unsigned_abs MOST_MILLIS

abbrev pub is_span_within_limit : ℤ → Bool
is_span_within_limit n = nat_le (unsigned_abs n) span_limit

-- names of entry points have 1 to 64 bytes
abbrev pub is_entry_name : List ℕ → Bool
is_entry_name name = nat_lt 0 (length name) && is_name name

-- `in` has at most 32 operands
abbrev pub cmp_within : Cmp → Bool
cmp_within (cmp.Rel f r o) = is_name f && operand_within o
cmp_within (cmp.OneOf f os) = is_name f && nat_le (length os) 32 && list_all operand_within os

abbrev pub part_within : Part → Bool
part_within (part.Bind v f) = is_name v && is_name f
part_within (part.Temporal op params other) = list_all is_span_within_limit params && is_name other
part_within (part.AnyOf groups) = list_all (λ (group : List Cmp). list_all cmp_within group) groups

-- how many bindings, temporal tests and comparisons a part is
abbrev pub weight : Part → ℕ
weight (part.Bind v f) = 1
weight (part.Temporal op params other) = 1
weight (part.AnyOf groups) = sum_by (λ (group : List Cmp). length group) groups

abbrev pub variable_within : Option (List ℕ) → Bool
variable_within None = true
variable_within (Some v) = is_name v

abbrev pub entry_within : Option (List ℕ) → Bool
entry_within None = true
entry_within (Some name) = is_entry_name name

-- a window of length has at most 1,000,000 events
abbrev pub window_within : Option WindowTree → Bool
window_within None = true
window_within (Some (window.Time span)) = is_span_within_limit span
window_within (Some (window.Length count)) = nat_le (unsigned_abs count) 1000000

-- a pattern has at most 32 bindings, temporal tests and comparisons together
abbrev pub source_within : SourceTree → Bool
source_within s = variable_within s.var && is_name s.ty && nat_le (sum_by weight s.parts) 32 && list_all part_within s.parts && window_within s.window && entry_within s.entry

abbrev pub test_within : Rel × Operand → Bool
test_within test = operand_within test.1

-- an accumulate has at most 32 tests of its result
abbrev pub tests_within : List (Rel × Operand) → Bool
tests_within tests = nat_le (length tests) 32 && list_all test_within tests

abbrev pub condition_within : CondTree → Bool
condition_within (condition.Plain s) = source_within s
condition_within (condition.Negated s) = source_within s
condition_within (condition.Existing s) = source_within s
condition_within (condition.Folded result s kind arg tests) = variable_within result && source_within s && is_name arg && tests_within tests

abbrev pub attr_within : Attr → Bool
attr_within (attr.Salience n) = nat_le (unsigned_abs n) 2147483647
attr_within (attr.Dialect text) = is_text text

-- the names and the texts of an expression
abbrev pub tree_within : Tree → Bool
tree_within (lit l) = literal_within l
tree_within (var v) = is_name v
tree_within (var_field v f) = is_name v && is_name f
tree_within (neg a) = tree_within a
tree_within (add a b) = tree_within a && tree_within b
tree_within (sub a b) = tree_within a && tree_within b
tree_within (mul a b) = tree_within a && tree_within b

abbrev pub set_within : List ℕ × Tree → Bool
set_within set = is_name set.0 && tree_within set.1

abbrev pub action_within : ActTree → Bool
action_within (action.Insert ty args) = is_name ty && list_all tree_within args
action_within (action.Modify v sets) = is_name v && list_all set_within sets
action_within (action.Retract v) = is_name v

-- a rule has at most 16 actions
abbrev pub actions_within : List ActTree → Bool
actions_within actions = nat_le (length actions) 16 && list_all action_within actions

-- a rule's name has 1 to 256 bytes; a rule has 1 to 8 conditions
abbrev pub rule_within : RuleTree → Bool
rule_within r = nat_lt 0 (length r.name) && is_name_short 256 r.name && list_all attr_within r.attrs && nat_lt 0 (length r.conditions) && nat_le (length r.conditions) 8 && list_all condition_within r.conditions && actions_within r.actions

-- the field that an annotation names
abbrev pub meta_within : Meta → Bool
meta_within (meta.Timestamp field) = is_name field
meta_within (meta.Duration field) = is_name field
meta_within (meta.Role event) = true
meta_within (meta.Expires offset) = is_span_within_limit offset
meta_within meta.Reference = true

-- a type has at most 32 fields
abbrev pub type_within : TypeTree → Bool
type_within t = is_name t.name && nat_le (length t.fields) 32 && list_all is_name (field_names t) && list_all meta_within t.metas

abbrev pub lateness_within : Option ℤ → Bool
lateness_within None = true
lateness_within (Some lateness) = is_span_within_limit lateness

-- there are at most 64 entry points with those that an item names, where these are known before it
abbrev pub has_few_entries : List (List ℕ) → Body → Bool
has_few_entries known b = nat_le (length (with_names known (entries_named b))) 64

-- A file has at most 128 types, 256 rules and 64 entry points: the one too many exceeds the limit, given how many types and rules
-- earlier items declare, and which entry points are known.
abbrev pub exceeds_limit_behind : ℕ → ℕ → List (List ℕ) → Body → Bool
exceeds_limit_behind types rules known (body.Declare t) = not (nat_lt types 128 && type_within t)
exceeds_limit_behind types rules known (body.Entry name lateness) =
    not (has_few_entries known (body.Entry name lateness) && is_entry_name name && lateness_within lateness)
exceeds_limit_behind types rules known (body.Rule r) = not (nat_lt rules 256 && has_few_entries known (body.Rule r) && rule_within r)
exceeds_limit_behind types rules known (body.Package path) = false
exceeds_limit_behind types rules known (body.Import path star) = false
exceeds_limit_behind types rules known (body.Dialect text) = false

abbrev pub exceeds_limit : List Item → Body → Bool
exceeds_limit before b = exceeds_limit_behind (length (types_of before)) (length (rules_of before)) (entry_names before) b
