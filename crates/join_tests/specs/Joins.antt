-- When a candidate that is named joins a row, by the facts that are at hand.
use Rattle.std.specs.{Prelude.{Bool, false, List, [], ◌∷◌, Option, Some, None, cond}, Option.{option_map, option_and_then}, Ordering.{eq_by_cmp}}
use Rattle.fx_base.specs.declared.{ids.Tag.{Tag}, fact.Fact.{Fact}}
use Rattle.row_delta.specs.{declared.row.{Named.{Named}, Row.{Row}}, NameOrder.{name_cmp}}
use Rattle.rule_model.specs.{declared.condition.Pattern.{Pattern}, Tuples.{Tuple, name_of}, Lent.{tuple_of}, Candidates.{passes}}

-- the versions of facts that are at hand, by their tags
abbrev pub Look : Type 0
Look = Tag → Option Fact

-- the fact is the version that is named
abbrev pub is_named_version : Named → Fact → Bool
is_named_version named f = eq_by_cmp name_cmp (name_of f) named

-- the version that is named, where it is at hand
abbrev pub version_at : Look → Named → Option Fact
version_at look named = option_and_then (λ (f : Fact). cond (is_named_version named f) (Some f) None) (look named.tag)

-- the versions that are named, where all of them are at hand
abbrev pub versions_at : Look → List Named → Option (List Fact)
versions_at look [] = Some []
versions_at look (named ∷ names) = option_and_then (λ (f : Fact). option_map (λ facts. f ∷ facts) (versions_at look names)) (version_at look named)

-- what a row has bound, where all the versions that it names are at hand
abbrev pub tuple_at : Look → Row → Option Tuple
tuple_at look row = option_map (λ facts. tuple_of facts row.values) (versions_at look row.facts)

abbrev pub passes_given : Pattern → Option Tuple → Option Fact → Bool
passes_given p None candidate = false
passes_given p (Some tuple) None = false
passes_given p (Some tuple) (Some f) = passes p tuple f

-- the candidate that is named passes for what the row has bound, and all of it is at hand
unfoldable pub joins : Pattern → Look → Row → Named → Bool
joins p look row who = passes_given p (tuple_at look row) (version_at look who)
