-- Facts behind references and behind tags.
use Rattle.std.specs.{Prelude.{◌≡◌, ℕ, ℤ, List, [], ◌∷◌, map, Option, Some, slice_get}, Borrow.{Bor}, Option.{option_and_then}}
use Rattle.fx_base.specs.declared.{ids.Tag.{Tag}, fact.Fact.{Fact}}
use Rattle.row_delta.specs.declared.row.{Named.{Named}, Row.{Row}}
use Rattle.rule_model.specs.Tuples.{Tuple, Bindings}

-- a map gives these facts at their tags
abbrev pub Holds : (Tag → Option Fact) → List Fact → Type 0
Holds facts_at [] = Unit {0}
Holds facts_at (f ∷ facts) = (facts_at f.tag ≡ Some f) × Holds facts_at facts

-- the facts of references
abbrev pub lent : List (Bor Fact) → List Fact
lent facts = map (λ (f : Bor Fact). f.now) facts

abbrev pub tuple_of : List Fact → List ℤ → Tuple
tuple_of facts values = record { facts = facts; values = values }

-- the fact that a map has for the version that a row names in a place
abbrev pub named_at : (Tag → Option Fact) → List Named → ℕ → Option Fact
named_at facts_at names place = option_and_then (λ (n : Named). facts_at n.tag) (slice_get names place)

-- what a row bound: the facts that it names, as a map has them, and its values
abbrev pub bound_in : (Tag → Option Fact) → Row → Bindings
bound_in facts_at row = record { fact = named_at facts_at row.facts; result = slice_get row.values }
