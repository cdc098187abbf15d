-- How a keyed pattern has its equalities at hand.
use Rattle.std.specs.{Prelude.{List, [], ◌∷◌}, Option.{option_map}}
use Rattle.fx_base.specs.declared.value.Value.{Value}
use Rattle.rule_model.specs.{Lent.{bound_in}, Tests.{field_of}}
use Rattle.join_tests.specs.declared.{key.{JoinKey.{JoinKey}, Keying.{Keying, TheVariants.{Nothing, One, Several}}}, part.Partner.{Partner}}
use Rattle.join_tests.specs.{declared.part.Partner.TheVariants.{OfRow, OfCandidate}, Joins.{Look}, Keys.{earlier_value, given_or_true}}

-- with one equality more
abbrev pub and_one : Keying → JoinKey → Keying
and_one Nothing key = One key
and_one (One first) key = Several
and_one Several key = Several

-- with more of them
abbrev pub and_more : Keying → List JoinKey → Keying
and_more keying [] = keying
and_more keying (key ∷ keys) = and_more (and_one keying key) keys

-- how many there are
abbrev pub keying_of : List JoinKey → Keying
keying_of keys = and_more Nothing keys

-- what a row or a candidate has of an equality
abbrev pub part : Look → Partner → JoinKey → Value
part look (OfRow row) key = given_or_true (earlier_value (bound_in look row.now) key.side)
part look (OfCandidate fact) key = given_or_true (field_of (option_map (λ f. f.now) fact) key.field)
