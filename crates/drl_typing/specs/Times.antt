-- Temporal tests and windows that look at the times of what is no event.
use Rattle.std.specs.{Prelude.{◌&&◌, ◌||◌, Bool, false, not, List, Option, Some, None, is_some}, List.{list_any}}
use Rattle.drl_grammar.specs.declared.condition.{CondTree.{CondTree}, SourceTree.{SourceTree}, Part.{Part}}
use Rattle.drl_grammar.specs.declared.condition.Part.TheVariants as part
use Rattle.drl_grammar.specs.declared.file.TypeTree.{TypeTree}
use Rattle.drl_scope.specs.{Annotations.{is_tree_of_events}, Declarations.{type_tree_named}, EntryPoints.{source_of}, Sight.{Sight, Meaning, of_fact, of_field}}
use Rattle.drl_scope.specs.Sight.{of_result, meaning_of, Place}

-- a variable is a fact whose type is no event type
abbrev pub is_plain_fact : Option Meaning → Bool
is_plain_fact None = false
is_plain_fact (Some (of_fact fact t)) = not (is_tree_of_events t)
is_plain_fact (Some (of_field fact field k)) = false
is_plain_fact (Some (of_result result)) = false

-- a temporal test looks at the times of the pattern's fact, whose type this is, and at those of the variable's fact
abbrev pub part_lacks_times : TypeTree → Sight → Part → Bool
part_lacks_times t sight (part.Bind v f) = false
part_lacks_times t sight (part.Temporal op params other) = not (is_tree_of_events t) || is_plain_fact (meaning_of sight other)
part_lacks_times t sight (part.AnyOf groups) = false

-- a window looks at the times of the pattern's fact
abbrev pub source_lacks_times : Option TypeTree → Sight → SourceTree → Bool
source_lacks_times None sight s = false
source_lacks_times (Some t) sight s = (is_some s.window && not (is_tree_of_events t)) || list_any (part_lacks_times t sight) s.parts

-- of any condition, whether it is a pattern, a not, an exists or an accumulate
abbrev pub has_no_times : List TypeTree → Place → CondTree → Bool
has_no_times types place c = source_lacks_times (type_tree_named types (source_of c).ty) place.sight (source_of c)
