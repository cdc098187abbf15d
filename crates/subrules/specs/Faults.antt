-- Which item cannot be written out.
use Rattle.std.specs.Prelude.{ℕ, ◌+◌, ◌&&◌, ◌||◌, not, nat_lt, Bool, true, false, is_some, if◌then◌else◌, List, [], ◌∷◌, length, Option, Some, None}
use Rattle.std.specs.{Prelude.{option_to_list}, List.{list_any}}
use Rattle.drl_scope.specs.{EntryPoints.{source_of}, Observed.{is_of_length}}
use Rattle.drl_expr.specs.Words.{is_among}
use Rattle.drl_grammar.specs.declared.condition.CondTree.{CondTree}
use Rattle.drl_grammar.specs.declared.condition.CondTree.TheVariants as condition
use Rattle.drl_grammar.specs.declared.written.Piece.{Piece}
use Rattle.drl_grammar.specs.declared.written.Piece.TheVariants as piece
use Rattle.drl_grammar.specs.declared.written.WrittenBody.{WrittenBody}
use Rattle.drl_grammar.specs.declared.written.WrittenBody.TheVariants as body
use Rattle.drl_grammar.specs.declared.written.{WrittenItem.{WrittenItem}, WrittenRule.{WrittenRule}, WrittenType.{WrittenType}}
use Rattle.subrules.specs.declared.fault.{ExpandCode.{ExpandCode, TheVariants.{UnknownType, BadExtends, HasSubtypes, LimitPassed}}, Obstacle.{Obstacle}}
use Rattle.subrules.specs.{Hierarchy.{written_type_names, written_types_of, above, goes_round, has_subtypes}, Ways.{Way, ways_of}, Expanded.{inherited_fields}}

-- ---- types

abbrev pub lacks_parent : List WrittenType → WrittenType → Bool
lacks_parent types t = list_any (λ name. not (is_among (written_type_names types) name)) (option_to_list t.parent)

-- how many fields types have
abbrev pub number_of_fields : List WrittenType → ℕ
number_of_fields [] = 0
number_of_fields (t ∷ types) = length t.fields + number_of_fields types

-- more than 32 fields with those that it inherits
abbrev pub has_many_fields : List WrittenType → WrittenType → Bool
has_many_fields types t = is_some t.parent && nat_lt 32 (length (inherited_fields t.fields (above types t)))

abbrev pub fault_of_type : List WrittenType → WrittenType → Option ExpandCode
fault_of_type types t =
    if lacks_parent types t then Some UnknownType
    else if goes_round types t then Some BadExtends
    else if has_many_fields types t then Some LimitPassed
    else None

-- ---- rules

-- what looks at several facts of one type: an `exists`, an accumulate, a window of length
abbrev pub looks_at_many : CondTree → Bool
looks_at_many (condition.Plain s) = is_of_length s.window
looks_at_many (condition.Negated s) = is_of_length s.window
looks_at_many (condition.Existing s) = true
looks_at_many (condition.Folded result s kind arg tests) = true

abbrev pub is_over_subtypes : List WrittenType → Piece → Bool
is_over_subtypes types (piece.One c) = looks_at_many c && has_subtypes types (source_of c).ty
is_over_subtypes types piece.Open = false
is_over_subtypes types piece.Or = false
is_over_subtypes types piece.Close = false

-- what is written out: alternatives, and a pattern or a `not` on a type with subtypes
abbrev pub is_varied : List WrittenType → Piece → Bool
is_varied types (piece.One (condition.Plain s)) = has_subtypes types s.ty
is_varied types (piece.One (condition.Negated s)) = has_subtypes types s.ty
is_varied types (piece.One (condition.Existing s)) = false
is_varied types (piece.One (condition.Folded result s kind arg tests)) = false
is_varied types piece.Open = true
is_varied types piece.Or = true
is_varied types piece.Close = true

-- more than 256 rules, or one of more than 8 conditions
abbrev pub are_too_many : List Way → Bool
are_too_many ways = nat_lt 256 (length ways) || list_any (λ (way : Way). nat_lt 8 (length way)) ways

abbrev pub fault_of_rule : List WrittenType → WrittenRule → Option ExpandCode
fault_of_rule types r =
    if list_any (is_over_subtypes types) r.pieces then Some HasSubtypes
    else if list_any (is_varied types) r.pieces && are_too_many (ways_of types r.pieces) then Some LimitPassed
    else None

-- ---- items

abbrev pub fault_of : List WrittenType → WrittenBody → Option ExpandCode
fault_of types (body.Declare t) = fault_of_type types t
fault_of types (body.Rule r) = fault_of_rule types r
fault_of types (body.Package path) = None
fault_of types (body.Import path star) = None
fault_of types (body.Dialect text) = None
fault_of types (body.Entry name lateness) = None

abbrev at_item : ℕ → WrittenItem → ExpandCode → Obstacle
at_item k item code = record { number = k; line = item.line; code = code }

abbrev or_later : ℕ → WrittenItem → Option ExpandCode → Option Obstacle → Option Obstacle
or_later k item None later = later
or_later k item (Some code) later = Some (at_item k item code)

-- the first of these items, this one standing first, that cannot be written out
unfoldable pub obstacle_from : List WrittenType → ℕ → List WrittenItem → Option Obstacle
obstacle_from types k [] = None
obstacle_from types k (item ∷ items) = or_later k item (fault_of types item.body) (obstacle_from types (k + 1) items)

-- counted from 1
abbrev pub obstacle : List WrittenItem → Option Obstacle
obstacle items = obstacle_from (written_types_of items) 1 items
