-- Which types the rules of a file observe: those of a not, an exists, an accumulate, or a pattern with a window of length.
use Rattle.std.specs.{Prelude.{ℕ, ◌&&◌, Bool, true, false, List, [], ◌∷◌, Option, Some, None, if◌then◌else◌}, List.{flat_map}}
use Rattle.drl_grammar.specs.declared.condition.CondTree.{CondTree}
use Rattle.drl_grammar.specs.declared.condition.CondTree.TheVariants as tree
use Rattle.drl_grammar.specs.declared.condition.WindowTree.{WindowTree}
use Rattle.drl_grammar.specs.declared.condition.WindowTree.TheVariants as window
use Rattle.drl_grammar.specs.declared.file.{RuleTree.{RuleTree}, TypeTree.{TypeTree}}
use Rattle.drl_scope.specs.{Annotations.{is_tree_of_events}, EntryPoints.{source_of}}
use Rattle.drl_expr.specs.Words.{is_among}

abbrev pub has_length : Option WindowTree → Bool
has_length None = false
has_length (Some (window.Time span)) = false
has_length (Some (window.Length count)) = true

abbrev pub is_observing : CondTree → Bool
is_observing (tree.Plain s) = has_length s.window
is_observing (tree.Negated s) = true
is_observing (tree.Existing s) = true
is_observing (tree.Folded result s kind arg tests) = true

-- the name of the type that a condition observes, where it observes one
abbrev pub observed_by : CondTree → List (List ℕ)
observed_by c = if is_observing c then (source_of c).ty ∷ [] else []

-- the names of the types that rules observe, in the order of their conditions
abbrev pub observed_names : List RuleTree → List (List ℕ)
observed_names rules = flat_map (λ (r : RuleTree). flat_map observed_by r.conditions) rules

-- an event type that is observed, given these names
abbrev pub is_observed_event : List (List ℕ) → TypeTree → Bool
is_observed_event names t = is_tree_of_events t && is_among names t.name
