-- The operator of a word with its parameters.
use Rattle.std.specs.{Prelude.{ℤ, pos, neg_ℤ, ◌^◌, ◌&&◌, ◌||◌, int_le, int_lt, not, Bool, List, Option, None, if◌then◌else◌}, List.{list_all, list_any}}
use Rattle.temporal_ops.specs.{declared.{edge.OpEdge.{OpEdge}, word.OpWord.{OpWord}}, Operators.{edges_of}, Table.{takes_negative}}

-- milliseconds of at most 2^53 in size
unfoldable pub is_span : ℤ → Bool
is_span n = int_le (neg_ℤ (pos (2 ^ 53))) n && int_le n (pos (2 ^ 53))

abbrev pub is_negative : ℤ → Bool
is_negative n = int_lt n (pos 0)

-- parameters within their limits, of which only those of `after` and `before` may be below 0
abbrev pub are_parameters : OpWord → List ℤ → Bool
are_parameters word params = list_all is_span params && (takes_negative word || not (list_any is_negative params))

-- The edges that the table gives. Parameters that no accepted file has, of another number or beyond their limits, have none.
abbrev pub operator_of : OpWord → List ℤ → Option (List OpEdge)
operator_of word params = if are_parameters word params then edges_of word params else None
