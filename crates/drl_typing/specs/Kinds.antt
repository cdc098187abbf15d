-- Values of a kind that does not fit where they stand.
use Rattle.std.specs.{Prelude.{ℕ, ◌&&◌, ◌||◌, Bool, true, false, not, List, [], ◌∷◌, map, Option, Some, None, is_some, option_map}, List.{list_any, filter}}
use Rattle.std.specs.Str.{bytes_eq}
use Rattle.fx_base.specs.declared.kind.Kind.{Kind}
use Rattle.fx_base.specs.declared.kind.Kind.TheVariants as kind
use Rattle.drl_lex.specs.declared.token.Rel.{Rel, TheVariants.{Equal, NotEqual, Less, LessOrEqual, Greater, GreaterOrEqual}}
use Rattle.drl_expr.specs.declared.literal.LitTree.{LitTree}
use Rattle.drl_expr.specs.declared.literal.LitTree.TheVariants as literal
use Rattle.drl_expr.specs.Tree.{Tree, lit, var, var_field, neg, add, sub, mul}
use Rattle.drl_grammar.specs.declared.action.ActTree.{ActTree}
use Rattle.drl_grammar.specs.declared.action.ActTree.TheVariants as action
use Rattle.drl_grammar.specs.declared.condition.CondTree.{CondTree}
use Rattle.drl_grammar.specs.declared.condition.CondTree.TheVariants as condition
use Rattle.drl_grammar.specs.declared.condition.{SourceTree.{SourceTree}, Part.{Part}}
use Rattle.drl_grammar.specs.declared.condition.Part.TheVariants as part
use Rattle.drl_grammar.specs.declared.condition.Cmp.{Cmp}
use Rattle.drl_grammar.specs.declared.condition.Cmp.TheVariants as cmp
use Rattle.drl_grammar.specs.declared.condition.FoldWord.{FoldWord}
use Rattle.drl_grammar.specs.declared.condition.FoldWord.TheVariants as fold
use Rattle.drl_grammar.specs.declared.condition.Operand.{Operand}
use Rattle.drl_grammar.specs.declared.condition.Operand.TheVariants as operand
use Rattle.drl_grammar.specs.declared.file.TypeTree.{TypeTree}
use Rattle.drl_scope.specs.{Declarations.{type_tree_named, kind_by_word}, Meanings.{field_kind, variable_kind, variable_field_kind}, Sight.{Sight, Meaning}}
use Rattle.drl_scope.specs.Sight.{of_fact, of_field, of_result, meaning_of, Place}

-- a field whose kind word is none of the seven
abbrev pub has_unknown_kind : TypeTree → Bool
has_unknown_kind t = list_any (λ (field : List ℕ × List ℕ). not (is_some (kind_by_word field.1))) t.fields

abbrev pub literal_kind : LitTree → Kind
literal_kind (literal.Int n) = kind.Int
literal_kind (literal.Bool b) = kind.Bool
literal_kind (literal.Text s) = kind.Text

-- The kind of an operand, which a field may lack; nothing where a fact stands for a value, or a value for a fact.
abbrev pub operand_kind : TypeTree → Sight → Operand → Option (Option Kind)
operand_kind t sight (operand.Lit l) = Some (Some (literal_kind l))
operand_kind t sight (operand.Own f) = Some (field_kind t f)
operand_kind t sight (operand.Var v) = variable_kind (meaning_of sight v)
operand_kind t sight (operand.VarField v f) = variable_field_kind (meaning_of sight v) f

abbrev pub is_int : Option Kind → Bool
is_int (Some kind.Int) = true
is_int k = false

abbrev pub is_same_kind : Option Kind → Option Kind → Bool
is_same_kind None None = true
is_same_kind (Some kind.Int) (Some kind.Int) = true
is_same_kind (Some kind.Bool) (Some kind.Bool) = true
is_same_kind (Some kind.Text) (Some kind.Text) = true
is_same_kind a b = false

-- an order is between whole numbers alone
abbrev pub kinds_fit : Rel → Option Kind → Option Kind → Bool
kinds_fit Equal a b = is_same_kind a b
kinds_fit NotEqual a b = is_same_kind a b
kinds_fit Less a b = is_int a && is_int b
kinds_fit LessOrEqual a b = is_int a && is_int b
kinds_fit Greater a b = is_int a && is_int b
kinds_fit GreaterOrEqual a b = is_int a && is_int b

abbrev pub misfits : Rel → Option Kind → Option (Option Kind) → Bool
misfits r left None = true
misfits r left (Some right) = not (kinds_fit r left right)

abbrev pub cmp_misfits : TypeTree → Sight → Cmp → Bool
cmp_misfits t sight (cmp.Rel f r o) = misfits r (field_kind t f) (operand_kind t sight o)
cmp_misfits t sight (cmp.OneOf f os) = list_any (λ (o : Operand). misfits Equal (field_kind t f) (operand_kind t sight o)) os

-- a value stands where a fact is needed
abbrev pub is_value : Option Meaning → Bool
is_value None = false
is_value (Some (of_fact fact t)) = false
is_value (Some (of_field fact field k)) = true
is_value (Some (of_result result)) = true

-- a temporal test needs a fact
abbrev pub part_misfits : TypeTree → Sight → Part → Bool
part_misfits t sight (part.Bind v f) = false
part_misfits t sight (part.Temporal op params other) = is_value (meaning_of sight other)
part_misfits t sight (part.AnyOf groups) = list_any (λ (group : List Cmp). list_any (cmp_misfits t sight) group) groups

abbrev pub source_misfits : Option TypeTree → Sight → SourceTree → Bool
source_misfits None sight s = false
source_misfits (Some t) sight s = list_any (part_misfits t sight) s.parts

-- the variable is bound to a field of whole numbers
abbrev pub is_number_in : TypeTree → List ℕ → Part → Bool
is_number_in t v (part.Bind bound f) = bytes_eq bound v && is_int (field_kind t f)
is_number_in t v (part.Temporal op params other) = false
is_number_in t v (part.AnyOf groups) = false

abbrev pub is_number_of : TypeTree → SourceTree → List ℕ → Bool
is_number_of t s v = list_any (is_number_in t v) s.parts

-- what is counted may have any kind; all else is over whole numbers
abbrev pub wants_numbers : FoldWord → Bool
wants_numbers fold.Count = false
wants_numbers fold.Sum = true
wants_numbers fold.Min = true
wants_numbers fold.Max = true
wants_numbers fold.Average = true

abbrev pub argument_misfits : Option TypeTree → SourceTree → FoldWord → List ℕ → Bool
argument_misfits None s function arg = false
argument_misfits (Some t) s function arg = wants_numbers function && not (is_number_of t s arg)

-- The kind of an operand of a test of a result, which has no field of its own.
abbrev pub result_operand_kind : Sight → Operand → Option (Option Kind)
result_operand_kind sight (operand.Lit l) = Some (Some (literal_kind l))
result_operand_kind sight (operand.Var v) = variable_kind (meaning_of sight v)
result_operand_kind sight (operand.VarField v f) = variable_field_kind (meaning_of sight v) f
result_operand_kind sight (operand.Own f) = None

-- a result is a whole number
abbrev pub test_misfits : Sight → Rel × Operand → Bool
test_misfits sight test = misfits test.0 (Some kind.Int) (result_operand_kind sight test.1)

abbrev pub has_wrong_kind : List TypeTree → Place → CondTree → Bool
has_wrong_kind types place (condition.Plain s) = source_misfits (type_tree_named types s.ty) place.sight s
has_wrong_kind types place (condition.Negated s) = source_misfits (type_tree_named types s.ty) place.sight s
has_wrong_kind types place (condition.Existing s) = source_misfits (type_tree_named types s.ty) place.sight s
has_wrong_kind types place (condition.Folded result s function arg tests) =
    source_misfits (type_tree_named types s.ty) place.sight s || argument_misfits (type_tree_named types s.ty) s function arg || list_any (test_misfits place.sight) tests

-- ---- actions

abbrev pub is_number : Option (Option Kind) → Bool
is_number None = false
is_number (Some k) = is_int k

abbrev pub number_where : Bool → Option (Option Kind)
number_where false = None
number_where true = Some (Some kind.Int)

-- The kind of an expression; nothing where a fact stands for a value, a value for a fact, or an operator has an operand that is
-- no whole number.
abbrev pub tree_kind : Sight → Tree → Option (Option Kind)
tree_kind sight (lit l) = Some (Some (literal_kind l))
tree_kind sight (var v) = variable_kind (meaning_of sight v)
tree_kind sight (var_field v f) = variable_field_kind (meaning_of sight v) f
tree_kind sight (neg a) = number_where (is_number (tree_kind sight a))
tree_kind sight (add a b) = number_where (is_number (tree_kind sight a) && is_number (tree_kind sight b))
tree_kind sight (sub a b) = number_where (is_number (tree_kind sight a) && is_number (tree_kind sight b))
tree_kind sight (mul a b) = number_where (is_number (tree_kind sight a) && is_number (tree_kind sight b))

-- a field that has no kind can be set to nothing
abbrev pub set_misfits : Option Kind → Option (Option Kind) → Bool
set_misfits None given = true
set_misfits field None = true
set_misfits field (Some given) = not (is_same_kind field given)

-- The fields of a type, each name once: a field that is declared twice counts as its first declaration.
unfoldable pub fields_once : List (List ℕ × List ℕ) → List (List ℕ × List ℕ)
fields_once [] = []
fields_once (field ∷ fields) = field ∷ filter (λ (other : List ℕ × List ℕ). not (bytes_eq other.0 field.0)) (fields_once fields)

-- the kind that the kind word of a field names
abbrev pub word_kind : List ℕ × List ℕ → Option Kind
word_kind field = kind_by_word field.1

-- the kinds of the values that an insert takes, by the fields of the type
abbrev pub taken_kinds : List (List ℕ × List ℕ) → List (Option Kind)
taken_kinds fields = map word_kind (fields_once fields)

abbrev pub taken_by : TypeTree → List (Option Kind)
taken_by t = taken_kinds t.fields

-- one expression for each field, of its kind
unfoldable pub args_misfit : Sight → List (Option Kind) → List Tree → Bool
args_misfit sight [] [] = false
args_misfit sight (k ∷ kinds) (e ∷ es) = set_misfits k (tree_kind sight e) || args_misfit sight kinds es
args_misfit sight kinds es = true

abbrev pub insert_misfits : Option (List (Option Kind)) → Sight → List Tree → Bool
insert_misfits None sight args = false
insert_misfits (Some kinds) sight args = args_misfit sight kinds args

-- a value can not be modified
abbrev pub modify_misfits : Option Meaning → Sight → List (List ℕ × Tree) → Bool
modify_misfits None sight sets = false
modify_misfits (Some (of_fact fact t)) sight sets = list_any (λ (set : List ℕ × Tree). set_misfits (field_kind t set.0) (tree_kind sight set.1)) sets
modify_misfits (Some (of_field fact field k)) sight sets = true
modify_misfits (Some (of_result result)) sight sets = true

-- nor retracted
abbrev pub retract_misfits : Option Meaning → Bool
retract_misfits (Some (of_field fact field k)) = true
retract_misfits (Some (of_result result)) = true
retract_misfits (Some (of_fact fact t)) = false
retract_misfits None = false

abbrev pub action_misfits : List TypeTree → Sight → ActTree → Bool
action_misfits types sight (action.Insert ty args) = insert_misfits (option_map taken_by (type_tree_named types ty)) sight args
action_misfits types sight (action.Modify v sets) = modify_misfits (meaning_of sight v) sight sets
action_misfits types sight (action.Retract v) = retract_misfits (meaning_of sight v)
