-- The event types that the rules of a file observe: with a fact of such a type, rows that do not name it may come or go.
use Rattle.std.specs.{Prelude.{ℕ, ◌&&◌, Bool, true, false, List, [], ◌∷◌, Option, Some, None, if◌then◌else◌}, List.{flat_map}}
use Rattle.drl_grammar.specs.declared.condition.CondTree.{CondTree}
use Rattle.drl_grammar.specs.declared.condition.CondTree.TheVariants as condition
use Rattle.drl_grammar.specs.declared.condition.WindowTree.{WindowTree}
use Rattle.drl_grammar.specs.declared.condition.WindowTree.TheVariants as window
use Rattle.drl_grammar.specs.declared.file.Body.{Body}
use Rattle.drl_grammar.specs.declared.file.Body.TheVariants as body
use Rattle.drl_grammar.specs.declared.file.{Item.{Item}, TypeTree.{TypeTree}}
use Rattle.drl_expr.specs.Words.{is_among}
use Rattle.drl_scope.specs.Annotations.{is_tree_of_events}

abbrev pub is_of_length : Option WindowTree → Bool
is_of_length None = false
is_of_length (Some (window.Time millis)) = false
is_of_length (Some (window.Length count)) = true

-- the types that a condition watches: that of a not, an exists or an accumulate, and that of a pattern with a length window
abbrev pub watched_by : CondTree → List (List ℕ)
watched_by (condition.Plain s) = if is_of_length s.window then s.ty ∷ [] else []
watched_by (condition.Negated s) = s.ty ∷ []
watched_by (condition.Existing s) = s.ty ∷ []
watched_by (condition.Folded result s kind arg tests) = s.ty ∷ []

abbrev pub watched_in : Body → List (List ℕ)
watched_in (body.Rule r) = flat_map watched_by r.conditions
watched_in (body.Package path) = []
watched_in (body.Import path star) = []
watched_in (body.Dialect text) = []
watched_in (body.Declare t) = []
watched_in (body.Entry name lateness) = []

-- the names of the types that the conditions of a file watch
abbrev pub watched_names : List Item → List (List ℕ)
watched_names items = flat_map (λ (item : Item). watched_in item.body) items

-- an event type that has one of these names
abbrev pub is_event_among : List (List ℕ) → TypeTree → Bool
is_event_among names t = is_tree_of_events t && is_among names t.name

-- an event type that some condition of the file watches
abbrev pub is_watched_type : List Item → TypeTree → Bool
is_watched_type items t = is_event_among (watched_names items) t
