-- Parameters of temporal tests, windows and expiries with which they mean nothing.
use Rattle.std.specs.{Prelude.{ℤ, pos, ◌&&◌, ◌||◌, Bool, false, not, int_lt, List, Option, Some, None, is_none}, List.{list_any}}
use Rattle.temporal_ops.specs.{declared.word.OpWord.{OpWord}, Operators.{edges_of}, Table.{takes_negative}}
use Rattle.drl_grammar.specs.declared.condition.{CondTree.{CondTree}, SourceTree.{SourceTree}, Part.{Part}}
use Rattle.drl_grammar.specs.declared.condition.Part.TheVariants as part
use Rattle.drl_grammar.specs.declared.condition.WindowTree.{WindowTree}
use Rattle.drl_grammar.specs.declared.condition.WindowTree.TheVariants as window
use Rattle.drl_grammar.specs.declared.file.Meta.{Meta}
use Rattle.drl_grammar.specs.declared.file.Meta.TheVariants as meta
use Rattle.drl_grammar.specs.declared.file.TypeTree.{TypeTree}
use Rattle.drl_scope.specs.EntryPoints.{source_of}

abbrev pub is_below_zero : ℤ → Bool
is_below_zero n = int_lt n (pos 0)

abbrev pub is_below_one : ℤ → Bool
is_below_one n = int_lt n (pos 1)

-- ---- entry points

abbrev pub is_negative_number : Option ℤ → Bool
is_negative_number None = false
is_negative_number (Some lateness) = is_below_zero lateness

-- ---- types

-- an expiry of less than 1 ms
abbrev pub has_short_expiry : Meta → Bool
has_short_expiry (meta.Expires offset) = is_below_one offset
has_short_expiry (meta.Role event) = false
has_short_expiry (meta.Timestamp field) = false
has_short_expiry (meta.Duration field) = false
has_short_expiry meta.Reference = false

abbrev pub expires_at_once : TypeTree → Bool
expires_at_once t = list_any has_short_expiry t.metas

-- ---- rules

-- the table of operators has no row of the word for that many parameters, or a parameter is below 0 and the word takes none below
abbrev pub are_refused : OpWord → List ℤ → Bool
are_refused word params = is_none (edges_of word params) || (not (takes_negative word) && list_any is_below_zero params)

abbrev pub is_part_refused : Part → Bool
is_part_refused (part.Temporal word params other) = are_refused word params
is_part_refused (part.Bind v f) = false
is_part_refused (part.AnyOf groups) = false

-- a window of less than 1 ms, or of no events
abbrev pub is_empty_window : Option WindowTree → Bool
is_empty_window None = false
is_empty_window (Some (window.Time millis)) = is_below_one millis
is_empty_window (Some (window.Length count)) = is_below_one count

abbrev pub is_source_refused : SourceTree → Bool
is_source_refused s = is_empty_window s.window || list_any is_part_refused s.parts

-- of any condition, whether it is a pattern, a not, an exists or an accumulate
abbrev pub is_condition_refused : CondTree → Bool
is_condition_refused c = is_source_refused (source_of c)
