-- The entry points of a file: the default one, and those that are declared or named by a pattern, in the order in which the
-- file first names them.
use Rattle.std.specs.{Prelude.{ℕ, ℤ, pos, List, [], ◌∷◌, ◌++◌, Option, Some, None, if◌then◌else◌, codes}, List.{flat_map}, Str.{bytes_eq}}
use Rattle.drl_grammar.specs.declared.condition.CondTree.{CondTree}
use Rattle.drl_grammar.specs.declared.condition.CondTree.TheVariants as condition
use Rattle.drl_grammar.specs.declared.{condition.SourceTree.{SourceTree}, file.Body.{Body}}
use Rattle.drl_grammar.specs.declared.file.Body.TheVariants as body
use Rattle.drl_grammar.specs.declared.file.Item.{Item}
use Rattle.drl_expr.specs.Words.{is_among}

unfoldable pub default_name : List ℕ
default_name = codes "DEFAULT"

-- the pattern of a condition
abbrev pub source_of : CondTree → SourceTree
source_of (condition.Plain s) = s
source_of (condition.Negated s) = s
source_of (condition.Existing s) = s
source_of (condition.Folded result s kind arg tests) = s

abbrev pub given_name : Option (List ℕ) → List (List ℕ)
given_name None = []
given_name (Some name) = name ∷ []

-- the entry points that an item names, in their order
abbrev pub entries_named : Body → List (List ℕ)
entries_named (body.Entry name lateness) = name ∷ []
entries_named (body.Rule r) = flat_map (λ (c : CondTree). given_name (source_of c).entry) r.conditions
entries_named (body.Package path) = []
entries_named (body.Import path star) = []
entries_named (body.Dialect text) = []
entries_named (body.Declare t) = []

-- the entry points that an item declares
abbrev pub entries_declared : Body → List (List ℕ)
entries_declared (body.Entry name lateness) = name ∷ []
entries_declared (body.Package path) = []
entries_declared (body.Import path star) = []
entries_declared (body.Dialect text) = []
entries_declared (body.Declare t) = []
entries_declared (body.Rule r) = []

abbrev pub declared_entries : List Item → List (List ℕ)
declared_entries items = flat_map (λ (item : Item). entries_declared item.body) items

-- known names, and behind them one that may be new
abbrev pub with_entry_name : List (List ℕ) → List ℕ → List (List ℕ)
with_entry_name known name = if is_among known name then known else known ++ name ∷ []

-- known names, and behind them those that are new
unfoldable pub with_names : List (List ℕ) → List (List ℕ) → List (List ℕ)
with_names known [] = known
with_names known (name ∷ names) = with_names (with_entry_name known name) names

abbrev pub entry_names : List Item → List (List ℕ)
entry_names items = with_names (default_name ∷ []) (flat_map (λ (item : Item). entries_named item.body) items)

-- ---- lateness

abbrev pub lateness_or_zero : Option ℤ → ℤ
lateness_or_zero None = pos 0
lateness_or_zero (Some lateness) = lateness

abbrev pub lateness_with : Body → List ℕ → ℤ → ℤ
lateness_with (body.Entry declared lateness) name others = if bytes_eq declared name then lateness_or_zero lateness else others
lateness_with (body.Package path) name others = others
lateness_with (body.Import path star) name others = others
lateness_with (body.Dialect text) name others = others
lateness_with (body.Declare t) name others = others
lateness_with (body.Rule r) name others = others

-- the lateness that the first declaration of the name gives; 0 where none does
unfoldable pub lateness_named : List Item → List ℕ → ℤ
lateness_named [] name = pos 0
lateness_named (item ∷ items) name = lateness_with item.body name (lateness_named items name)
