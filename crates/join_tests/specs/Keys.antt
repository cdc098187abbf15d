-- The equalities of a pattern by which rows and candidates find each other, and the values that they compare.
use Rattle.std.specs.{Prelude.{ℕ, ℤ, true, List, [], ◌∷◌, ◌++◌, fold, Option, Some, None}, Int.{w64, cast_signed}}
use Rattle.std.specs.Hash as fed
use Rattle.std.specs.Hash.{HashWrites}
use Rattle.std.specs.Hash.FoldHasher as hasher
use Rattle.std.specs.declared.hash.FoldHasher.{FoldHasher}
use Rattle.fx_base.specs.declared.value.Value.{Value, TheVariants.{Int, Bool as Flag, Text}}
use Rattle.row_delta.specs.declared.row.{Named.{Named}, Row.{Row}}
use Rattle.rule_model.specs.declared.test.{RelTag.{RelTag, TheVariants.{OneOf, Equal, NotEqual, Less, LessOrEqual, Greater, GreaterOrEqual}}, Side.{Side}}
use Rattle.rule_model.specs.declared.{test.{Side.TheVariants.{Lit, Own, Of, Result}, Compare.{Compare}, Test.{Test}}, condition.Pattern.{Pattern}}
use Rattle.rule_model.specs.{Lent.{bound_in}, Tests.{field_of, side_value}, Tuples.{Bindings}}
use Rattle.join_tests.specs.{declared.key.{JoinSide.{JoinSide, TheVariants.{Field, Accumulated}}, JoinKey.{JoinKey}}, Joins.{Look}}

-- ---- the keys

abbrev key_with : ℕ → JoinSide → JoinKey
key_with field side = record { field = field; side = side }

-- a side that a row has, with the field that is compared with it
abbrev pub key_of_side : ℕ → Side → Option JoinKey
key_of_side field (Lit v) = None
key_of_side field (Own own) = None
key_of_side field (Of fact of) = Some (key_with field (Field fact of))
key_of_side field (Result place) = Some (key_with field (Accumulated place))

abbrev pub key_of_sides : ℕ → List Side → Option JoinKey
key_of_sides field [] = None
key_of_sides field (side ∷ []) = key_of_side field side
key_of_sides field (side ∷ (other ∷ sides)) = None

-- a comparison that is one equality
abbrev pub key_of_compare : RelTag → ℕ → List Side → Option JoinKey
key_of_compare OneOf field sides = key_of_sides field sides
key_of_compare Equal field sides = key_of_sides field sides
key_of_compare NotEqual field sides = None
key_of_compare Less field sides = None
key_of_compare LessOrEqual field sides = None
key_of_compare Greater field sides = None
key_of_compare GreaterOrEqual field sides = None

-- in front of others, where it is one
abbrev pub in_front : Option JoinKey → List JoinKey → List JoinKey
in_front None keys = keys
in_front (Some key) keys = key ∷ keys

-- the equalities of comparisons that must all hold
abbrev pub keys_of_compares : List Compare → List JoinKey
keys_of_compares [] = []
keys_of_compares (c ∷ compares) = in_front (key_of_compare c.rel c.field c.against) (keys_of_compares compares)

-- those of a test which leaves no choice
abbrev pub keys_of_choices : List (List Compare) → List JoinKey
keys_of_choices [] = []
keys_of_choices (choice ∷ []) = keys_of_compares choice
keys_of_choices (choice ∷ (other ∷ choices)) = []

abbrev pub keys_of_tests : List Test → List JoinKey
keys_of_tests [] = []
keys_of_tests (test ∷ tests) = keys_of_choices test.choices ++ keys_of_tests tests

-- the equalities that a candidate must have with a row, in the order of the text
unfoldable pub join_keys : Pattern → List JoinKey
join_keys p = keys_of_tests p.joined

-- ---- the values

-- what a row has of a side
abbrev pub earlier_value : Bindings → JoinSide → Option Value
earlier_value bound (Field fact of) = side_value bound None (Of fact of)
earlier_value bound (Accumulated place) = side_value bound None (Result place)

-- a value that may be missing; what is missing joins nothing, so any value may stand for it
abbrev pub given_or_true : Option Value → Value
given_or_true None = Flag true
given_or_true (Some v) = v

-- what a row has of an equality
abbrev pub row_part : Look → Row → JoinKey → Value
row_part look row key = given_or_true (earlier_value (bound_in look row) key.side)

-- what a candidate has of it
abbrev pub candidate_part : Look → Named → JoinKey → Value
candidate_part look who key = given_or_true (field_of (look who.tag) key.field)

-- ---- one value for all of them

-- what a value gives a hash; the kind is left out, since both sides of an equality have the same
abbrev pub writes : Value → HashWrites
writes (Int n) = fed.i64 n
writes (Flag b) = fed.bool b
writes (Text t) = fed.str t

-- a hash, fed with values one after another
abbrev pub fed_with : FoldHasher → List Value → FoldHasher
fed_with state [] = state
fed_with state (v ∷ values) = fed_with (fold hasher.write state (writes v)) values

-- the number that stands for several values: equal values have the same, and seldom others
unfoldable pub number_for : List Value → ℤ
number_for values = cast_signed w64 (hasher.finish (fed_with hasher.initial values))

-- no value, one value or several as one value, by which they are looked up; where the pattern asks for no equality, it is always the same
abbrev pub as_one : List Value → Value
as_one [] = Flag true
as_one (v ∷ []) = v
as_one (v ∷ (other ∷ values)) = Int (number_for (v ∷ (other ∷ values)))
