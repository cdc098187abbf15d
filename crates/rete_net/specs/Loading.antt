-- What a network is loaded with, and what it answers then.
use Rattle.std.specs.{Prelude.{◌≡◌, ◌≤ℤ◌, pos, ℕ, ℤ, Bool, true, false, List, [], map, length, Option, Some, None, slice_get}, List.Sorted.{IsStrictlySortedBy}}
use Rattle.std.specs.Ordering.{nat_cmp}
use Rattle.fx_base.specs.{Lists.{In}, declared.fact.Fact.{Fact}}
use Rattle.row_delta.specs.{declared.{delta.Delta.{Delta}, extra.Extra.{Extra}, row.{Named.{Named}, Row.{Row}}}, Rows.{has}}
use Rattle.rule_model.specs.declared.{condition.{Condition.{Condition}, WindowTag.TheVariants.{Time}}, moment.Moment.{Moment}, program.Program.{Program}}
use Rattle.rule_model.specs.{declared.program.Rule.{Rule}, Candidates.{is_candidate}, Moments.{IsAt}, Rows.{pattern_of}, Snapshots.{Snapshot, floor}}
use Rattle.rule_model.specs.Tuples.{name_of}
use Rattle.rule_world.specs.Programs.{IsRunnable}
use Rattle.join_tests.specs.Joins.{Look}
use Rattle.join_memory.specs.Standing.{no_names}
use Rattle.condition_rows.specs.Looks.{empty_snapshot, HasAllOf}
use Rattle.pattern_gate.specs.Moves.{IsOrderly}
use Rattle.laden_rows.specs.{Extras.{AreExtras, extra_cmp}, Laden.{IsKeptOf, laden}, Placed.{IsPlaced}}
use Rattle.rete_net.specs.{declared.changes.RuleChange.{RuleChange}, Nets.{change_of}}

-- A network of a program may be loaded with these facts, which are a snapshot's at a moment and which the store has, and with these extras,
-- which have their places and their order.
pub record IsLoadable (p : Program) (t : Snapshot) (kept : List Fact) (extras : List Extra) (moment : Moment) (look : Look) : Type 0 where
  pub runnable : IsRunnable p
  pub facts : t.facts ≡ kept
  pub at : IsAt t moment
  pub begun : pos 0 ≤ℤ t.clock
  pub orderly : IsOrderly p t
  pub floors : (entry : ℕ) → floor p empty_snapshot entry ≤ℤ floor p t entry
  pub at_hand : HasAllOf look t no_names
  pub placed : (e : Extra) → In e extras → IsPlaced p e
  pub in_order : IsStrictlySortedBy extra_cmp extras

-- a row of the first conditions of a rule is there, over the facts of a snapshot with these extras
abbrev pub IsThere : Program → Snapshot → List Extra → (ℕ → ℕ → ℕ) → Extra → Bool → Type 0
IsThere p t extras owners e there = (rule : Rule) → slice_get p.rules e.rule.0 ≡ Some rule → laden p t extras (owners e.rule.0) rule.conditions e.condition e.row ≡ there

-- the rows that come by a change, if there is one
abbrev pub coming : Option Delta → List Row
coming None = []
coming (Some delta) = delta.come

-- These are, in the order of the rules, the rows of those that have rows over a snapshot with these extras, as they come.
pub record AreLadenRows (p : Program) (t : Snapshot) (extras : List Extra) (owners : ℕ → ℕ → ℕ) (changes : List RuleChange) : Type 0 where
  pub in_order : IsStrictlySortedBy nat_cmp (map (λ (c : RuleChange). c.rule.0) changes)
  pub placed : (place : ℕ) (delta : Delta) → change_of changes place ≡ Some delta → (rule : Rule) × (slice_get p.rules place ≡ Some rule)
  pub none_gone : (place : ℕ) (delta : Delta) → change_of changes place ≡ Some delta → delta.gone ≡ []
  pub rows : (place : ℕ) (rule : Rule) → slice_get p.rules place ≡ Some rule → (row : Row)
      → has (coming (change_of changes place)) row ≡ laden p t extras (owners place) rule.conditions (length rule.conditions) row

-- What is forgotten of a snapshot is inside no window of time.
abbrev pub AreOutsideOfTime : Program → Snapshot → (Named → Bool) → Type 0
AreOutsideOfTime p s forgotten = (rule : Rule) → In rule p.rules → (k : ℕ) (c : Condition) → slice_get rule.conditions k ≡ Some c → (span : ℤ) → (pattern_of c).window ≡ Time span
    → (f : Fact) → In f s.facts → forgotten (name_of f) ≡ true → is_candidate p (pattern_of c) s f ≡ false

-- A snapshot has, beside the facts that a network is loaded with, facts that are forgotten, of which the extras tell.
pub record IsBehind (p : Program) (s t : Snapshot) (forgotten : Named → Bool) (extras : List Extra) (look : Look) : Type 0 where
  pub orderly : IsOrderly p s
  pub kept : IsKeptOf p s forgotten t
  pub outside : AreOutsideOfTime p s forgotten
  pub lost : AreExtras p s forgotten extras
  pub at_hand : HasAllOf look s forgotten
