-- What a step of the gate of a pattern does, turn by turn.
use Rattle.std.specs.{Prelude.{◌≡◌, ◌==◌, ◌&&◌, ◌||◌, Bool, true, false, cond, ℤ, List, [], ◌∷◌, Option, Some, None}, List.{list_any}}
use Rattle.fx_base.specs.declared.fact.Fact.{Fact}
use Rattle.row_delta.specs.{declared.row.Row.{Row}, Rows.{has}}
use Rattle.row_change.specs.{declared.change.Change.{Change}, Changes.{LeadsRows}}
use Rattle.rule_model.specs.{declared.condition.Pattern.{Pattern}, Tests.{tests_hold}, Tuples.{name_of, unbound}}
use Rattle.window_gate.specs.{declared.change.{GateChange.TheVariants.{Come, Gone, Clock}, WindowKind.{WindowKind}}, Windows.{Arrival, after, rows_inside}}
use Rattle.window_gate.specs.Standing.{StandsForArrivals, TakesChange, window_of}
use Rattle.pattern_gate.specs.declared.gate.PatternGate.{PatternGate}

-- the fact is of the pattern's type and entry point, and passes the constant tests
abbrev pub is_meant : Pattern → Fact → Bool
is_meant pattern f = f.ty.0 == pattern.ty.0 && (f.entry.0 == pattern.entry.0 && tests_hold unbound f pattern.alone)

-- there is a fact, and it is meant
abbrev pub is_given_meant : Pattern → Option Fact → Bool
is_given_meant pattern None = false
is_given_meant pattern (Some f) = is_meant pattern f

-- one of the facts that go, or the one that comes, is meant
abbrev pub is_one_meant : Pattern → List Fact → Option Fact → Bool
is_one_meant pattern gone come = list_any (is_meant pattern) gone || is_given_meant pattern come

-- ---- arrivals

-- what is left where a fact goes
abbrev pub less_fact : Pattern → List Arrival → Fact → List Arrival
less_fact pattern arrivals f = cond (is_meant pattern f) (after arrivals (Gone (name_of f))) arrivals

-- what is left where facts go, one after the other
abbrev pub less_facts : Pattern → List Arrival → List Fact → List Arrival
less_facts pattern arrivals [] = arrivals
less_facts pattern arrivals (f ∷ gone) = less_facts pattern (less_fact pattern arrivals f) gone

-- what is there where a fact comes, if one does
abbrev pub more_fact : Pattern → List Arrival → Option Fact → List Arrival
more_fact pattern arrivals None = arrivals
more_fact pattern arrivals (Some f) = cond (is_meant pattern f) (after arrivals (Come (name_of f) f.times.start)) arrivals

-- what is there where facts come, one after the other
abbrev pub more_facts : Pattern → List Arrival → List Fact → List Arrival
more_facts pattern arrivals [] = arrivals
more_facts pattern arrivals (f ∷ come) = more_facts pattern (more_fact pattern arrivals (Some f)) come

-- ---- what a window takes

-- a fact that is meant may go
abbrev pub LetsGo : WindowKind → Pattern → ℤ → List Arrival → Fact → Type 0
LetsGo window pattern clock arrivals f = is_meant pattern f ≡ true → TakesChange window arrivals clock (Gone (name_of f)) clock

-- so may these, one after the other
abbrev pub LetsAllGo : WindowKind → Pattern → ℤ → List Arrival → List Fact → Type 0
LetsAllGo window pattern clock arrivals [] = Unit {0}
LetsAllGo window pattern clock arrivals (f ∷ gone) = LetsGo window pattern clock arrivals f × LetsAllGo window pattern clock (less_fact pattern arrivals f) gone

-- a fact that is meant may come
abbrev pub LetsCome : WindowKind → Pattern → ℤ → List Arrival → Option Fact → Type 0
LetsCome window pattern clock arrivals None = Unit {0}
LetsCome window pattern clock arrivals (Some f) = is_meant pattern f ≡ true → TakesChange window arrivals clock (Come (name_of f) f.times.start) clock

-- so may these, one after the other
abbrev pub LetsAllCome : WindowKind → Pattern → ℤ → List Arrival → List Fact → Type 0
LetsAllCome window pattern clock arrivals [] = Unit {0}
LetsAllCome window pattern clock arrivals (f ∷ come) = LetsCome window pattern clock arrivals (Some f) × LetsAllCome window pattern clock (more_fact pattern arrivals (Some f)) come

-- a step: the clock moves, then facts go, then one comes
pub record TakesStep (window : WindowKind) (pattern : Pattern) (arrivals : List Arrival) (was : ℤ) (gone : List Fact) (come : Option Fact) (clock : ℤ) : Type 0 where
  pub moves : TakesChange window arrivals was Clock clock
  pub goes : LetsAllGo window pattern clock arrivals gone
  pub comes : LetsCome window pattern clock (less_facts pattern arrivals gone) come

-- ---- turns

-- the gate has this window and stands for these arrivals at this moment, and what has changed so far leads from the old rows to those
-- inside
pub record ReachesArrivals (old : Row → Bool) (kind : WindowKind) (gate : PatternGate) (change : Change) (arrivals : List Arrival) (now : ℤ) : Type 0 where
  pub window : window_of gate.gate ≡ kind
  pub stands : StandsForArrivals gate.gate arrivals now
  pub leads : LeadsRows old (has (rows_inside kind now arrivals)) change.gone.keys change.come.keys
