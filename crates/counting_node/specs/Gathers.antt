-- What accumulates gather of candidates.
use Rattle.std.specs.{Prelude.{◌≡◌, ℕ, ℤ, pos, Bool, false, List, map, Option, Some, None, if◌then◌else◌}, Ordering.{int_eq}}
use Rattle.fx_base.specs.declared.fact.Fact.{Fact}
use Rattle.fold_fn.specs.{Held.{Held}, Order.{in_rising_order}, Results.{fold_result}}
use Rattle.row_delta.specs.declared.row.{Named.{Named}, Row.{Row}}
use Rattle.rule_model.specs.{declared.condition.Accumulate.{Accumulate}, Lent.{bound_in}, Rows.{argument}, Tests.{results_hold}, Tuples.{Bindings}}
use Rattle.join_tests.specs.Joins.{Look}
use Rattle.join_memory.specs.Joined.{has_name, AreDistinct}

-- ---- candidates

abbrev pub argument_given : Option ℕ → Option Fact → ℤ
argument_given arg None = pos 0
argument_given arg (Some f) = argument arg f

-- what an accumulate takes of a candidate, as a world knows it
abbrev pub argument_of : Accumulate → Look → Named → ℤ
argument_of a world who = argument_given a.arg (world who.tag)

-- A fold holds what an accumulate takes of the candidates of a set: there is a list of these, each once, and the values of the fold
-- are their arguments.
pub record Gathers (a : Accumulate) (world : Look) (set : Named → Bool) (held : Held) : Type 0 where
  pub names : List Named
  pub distinct : AreDistinct names
  pub all : (who : Named) → has_name names who ≡ set who
  pub kind : held.kind ≡ a.kind
  pub values : held.values ≡ in_rising_order (map (argument_of a world) names)

-- the same of a tally, as nodes have it
abbrev pub gathers : Accumulate → Held → Look → (Named → Bool) → Type 0
gathers a held world set = Gathers a world set held

-- ---- results

-- a result, where there is one and the tests of the accumulate hold of it
abbrev pub tested : Accumulate → Bindings → Option ℤ → Option ℤ
tested a bound None = None
tested a bound (Some v) = if results_hold bound v a.tests then Some v else None

-- what a fold gives for a left row
abbrev pub result_for : Accumulate → Look → Row → Held → Option ℤ
result_for a look row held = tested a (bound_in look row) (fold_result held.kind held.values)

-- the number is what there is
abbrev pub is_result : Option ℤ → ℤ → Bool
is_result None v = false
is_result (Some n) v = int_eq n v
