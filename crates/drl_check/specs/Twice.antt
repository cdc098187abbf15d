-- What may stand once and stands twice.
use Rattle.std.specs.{Prelude.{ℕ, ◌||◌, Bool, true, false, not, List, [], ◌∷◌, ◌++◌, map, Option, Some, None, codes}, List.{flat_map, list_all}}
use Rattle.drl_expr.specs.Tree.{Tree}
use Rattle.drl_grammar.specs.declared.action.ActTree.{ActTree}
use Rattle.drl_grammar.specs.declared.action.ActTree.TheVariants as action
use Rattle.drl_grammar.specs.declared.condition.CondTree.{CondTree}
use Rattle.drl_grammar.specs.declared.condition.CondTree.TheVariants as condition
use Rattle.drl_grammar.specs.declared.condition.{SourceTree.{SourceTree}, Part.{Part}}
use Rattle.drl_grammar.specs.declared.condition.Part.TheVariants as part
use Rattle.drl_grammar.specs.declared.file.Attr.{Attr}
use Rattle.drl_grammar.specs.declared.file.Attr.TheVariants as attr
use Rattle.drl_grammar.specs.declared.file.Body.{Body}
use Rattle.drl_grammar.specs.declared.file.Body.TheVariants as body
use Rattle.drl_grammar.specs.declared.file.{Item.{Item}, Meta.{Meta}}
use Rattle.drl_grammar.specs.declared.file.Meta.TheVariants as meta
use Rattle.drl_grammar.specs.declared.file.RuleTree.{RuleTree}
use Rattle.drl_scope.specs.{Names.{are_distinct}, Declarations.{types_of, rules_of, type_names, rule_names, field_names}, EntryPoints.{declared_entries}}
use Rattle.drl_expr.specs.Words.{is_among}

abbrev pub attr_word : Attr → List ℕ
attr_word (attr.Salience n) = codes "salience"
attr_word (attr.Dialect s) = codes "dialect"

abbrev pub own_variable : Option (List ℕ) → List (List ℕ)
own_variable None = []
own_variable (Some v) = v ∷ []

abbrev pub part_variable : Part → List (List ℕ)
part_variable (part.Bind v f) = v ∷ []
part_variable (part.Temporal op params other) = []
part_variable (part.AnyOf groups) = []

abbrev pub source_variables : SourceTree → List (List ℕ)
source_variables s = own_variable s.var ++ flat_map part_variable s.parts

-- the variables that a condition binds, those inside not, exists and accumulate too, and that of the result of an accumulate
abbrev pub variables_bound : CondTree → List (List ℕ)
variables_bound (condition.Plain s) = source_variables s
variables_bound (condition.Negated s) = source_variables s
variables_bound (condition.Existing s) = source_variables s
variables_bound (condition.Folded result s kind arg tests) = source_variables s ++ own_variable result

abbrev pub bound_variables : RuleTree → List (List ℕ)
bound_variables r = flat_map variables_bound r.conditions

abbrev pub set_names : List (List ℕ × Tree) → List (List ℕ)
set_names sets = map (λ (set : List ℕ × Tree). set.0) sets

-- a modification assigns no field twice
abbrev pub assigns_once : ActTree → Bool
assigns_once (action.Modify v sets) = are_distinct (set_names sets)
assigns_once (action.Insert ty args) = true
assigns_once (action.Retract v) = true

abbrev pub annotation_word : Meta → List ℕ
annotation_word (meta.Role event) = codes "role"
annotation_word (meta.Timestamp field) = codes "timestamp"
annotation_word (meta.Duration field) = codes "duration"
annotation_word (meta.Expires offset) = codes "expires"
annotation_word meta.Reference = codes "reference"

-- given the names of the types, of the entry points and of the rules that earlier items declare
abbrev pub is_repeated : List (List ℕ) → List (List ℕ) → List (List ℕ) → Body → Bool
is_repeated types entries rules (body.Declare t) = is_among types t.name || not (are_distinct (map annotation_word t.metas)) || not (are_distinct (field_names t))
is_repeated types entries rules (body.Entry name lateness) = is_among entries name
is_repeated types entries rules (body.Rule r) = is_among rules r.name || not (are_distinct (map attr_word r.attrs)) || not (are_distinct (bound_variables r)) || not (list_all assigns_once r.actions)
is_repeated types entries rules (body.Package path) = false
is_repeated types entries rules (body.Import path star) = false
is_repeated types entries rules (body.Dialect text) = false

-- A type, an entry point or a rule is declared by an earlier item, an annotation, a field, an attribute or a variable stands twice
-- in the item, or a field is assigned twice in one modification.
abbrev pub is_twice : List Item → Body → Bool
is_twice before b = is_repeated (type_names (types_of before)) (declared_entries before) (rule_names (rules_of before)) b
