-- What the items of a file declare. A name that is declared twice means its first declaration.
use Rattle.std.specs.{Prelude.{ℕ, List, [], ◌∷◌, map, Option, Some, None, slice_get, if◌then◌else◌, codes}, List.{flat_map}, Option.{option_and_then}}
use Rattle.fx_base.specs.declared.kind.Kind.{Kind}
use Rattle.fx_base.specs.declared.kind.Kind.TheVariants as kind
use Rattle.drl_grammar.specs.declared.file.Body.{Body}
use Rattle.drl_grammar.specs.declared.file.Body.TheVariants as body
use Rattle.drl_grammar.specs.declared.file.{Item.{Item}, TypeTree.{TypeTree}, RuleTree.{RuleTree}}
use Rattle.drl_scope.specs.Names.{place_of_name}
use Rattle.drl_expr.specs.Words.{is_among}

abbrev pub type_in : Body → List TypeTree
type_in (body.Declare t) = t ∷ []
type_in (body.Package path) = []
type_in (body.Import path star) = []
type_in (body.Dialect text) = []
type_in (body.Entry name lateness) = []
type_in (body.Rule r) = []

abbrev pub rule_in : Body → List RuleTree
rule_in (body.Rule r) = r ∷ []
rule_in (body.Package path) = []
rule_in (body.Import path star) = []
rule_in (body.Dialect text) = []
rule_in (body.Declare t) = []
rule_in (body.Entry name lateness) = []

-- the declared types and the rules, in the order of the file
abbrev pub types_of : List Item → List TypeTree
types_of items = flat_map (λ (item : Item). type_in item.body) items

abbrev pub rules_of : List Item → List RuleTree
rules_of items = flat_map (λ (item : Item). rule_in item.body) items

abbrev pub type_names : List TypeTree → List (List ℕ)
type_names types = map (λ (t : TypeTree). t.name) types

abbrev pub rule_names : List RuleTree → List (List ℕ)
rule_names rules = map (λ (r : RuleTree). r.name) rules

abbrev pub field_names : TypeTree → List (List ℕ)
field_names t = map (λ (field : List ℕ × List ℕ). field.0) t.fields

-- the type of a name
abbrev pub type_tree_named : List TypeTree → List ℕ → Option TypeTree
type_tree_named types name = option_and_then (λ k. slice_get types k) (place_of_name (type_names types) name)

-- the kind that a kind word names, if it names one
unfoldable pub kind_by_word : List ℕ → Option Kind
kind_by_word word =
    if is_among (codes "int" ∷ codes "long" ∷ codes "Integer" ∷ codes "Long" ∷ []) word then Some kind.Int
    else if is_among (codes "boolean" ∷ codes "Boolean" ∷ []) word then Some kind.Bool
    else if is_among (codes "String" ∷ []) word then Some kind.Text
    else None

-- the kind of a field by its place; a field whose kind word is none of the seven has none
abbrev pub kind_at : TypeTree → ℕ → Option Kind
kind_at t k = option_and_then (λ (field : List ℕ × List ℕ). kind_by_word field.1) (slice_get t.fields k)
