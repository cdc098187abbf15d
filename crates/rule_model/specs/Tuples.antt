-- What conditions have bound so far, and the rows that name it.
use Rattle.std.specs.Prelude.{ℕ, ℤ, List, [], ◌∷◌, ◌++◌, map, Option, slice_get}
use Rattle.fx_base.specs.declared.fact.Fact.{Fact}
use Rattle.row_delta.specs.declared.row.{Named.{Named}, Row.{Row}}

-- the facts that patterns bound and the results of accumulates, each in the order of its conditions
pub record Tuple : Type 0 where
  pub facts : List Fact
  pub values : List ℤ

abbrev pub empty_tuple : Tuple
empty_tuple = record { facts = []; values = [] }

abbrev pub with_fact : Tuple → Fact → Tuple
with_fact tuple f = record { facts = tuple.facts ++ f ∷ []; values = tuple.values }

abbrev pub with_value : Tuple → ℤ → Tuple
with_value tuple v = record { facts = tuple.facts; values = tuple.values ++ v ∷ [] }

abbrev pub name_of : Fact → Named
name_of f = record { id = f.id; tag = f.tag }

-- the row of a tuple names its facts
abbrev pub row_of : Tuple → Row
row_of tuple = record { facts = map name_of tuple.facts; values = tuple.values }

-- what tests look up: facts and results, each by its place
pub record Bindings : Type 0 where
  pub fact : ℕ → Option Fact
  pub result : ℕ → Option ℤ

abbrev pub bound_by : Tuple → Bindings
bound_by tuple = record { fact = slice_get tuple.facts; result = slice_get tuple.values }

-- where no condition has bound anything
abbrev pub unbound : Bindings
unbound = bound_by empty_tuple
