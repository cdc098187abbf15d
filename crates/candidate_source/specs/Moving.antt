-- Sources that move, one after another: those whose first nodes are in some places.
use Rattle.std.specs.{Prelude.{◌≡◌, ℤ, ℕ, Bool, true, false, List, Option, Some}, BTreeMap.{BTreeMap}}
use Rattle.fx_base.specs.declared.fact.Fact.{Fact}
use Rattle.rule_model.specs.{declared.program.Program.{Program}, Snapshots.{Snapshot}}
use Rattle.join_tests.specs.Joins.{Look}
use Rattle.pattern_gate.specs.{Gates.{GateStands, has_good_window}, Moves.{MovesSnapshot}}
use Rattle.candidate_source.specs.{declared.{handed.Handed.{Handed}, source.Source.{Source}, sources.Sources.{Sources}}, Handed.{gone_at, come_at}}
use Rattle.candidate_source.specs.{Sources.{source_at, lead_of, is_led, handed_gone, handed_come}, Turns.{HasTurned, LeavesOthers}}

-- what a source becomes, and what is handed meanwhile
abbrev pub Step : Type 1
Step = Source → Source → BTreeMap ℕ Handed → BTreeMap ℕ Handed → Type 0

-- in a turn
pub record TurnStep (p : Program) (gone : List Fact) (come : Option Fact) (clock : ℤ) (look : Look) (old new : Source) (before after : BTreeMap ℕ Handed) : Type 0 where
  pub turned : (s next : Snapshot) → has_good_window p old.own.pattern ≡ true → GateStands p old.own.pattern old.gate s → MovesSnapshot p s next gone come → next.clock ≡ clock
      → HasTurned p s next old new look before after
  pub others : LeavesOthers old before after

-- The source of the node in a place has become another by a step, in which what it hands to the node was handed.
pub record HasMovedAt (step : Step) (old new : Sources) (k : ℕ) (was : Source) : Type 0 where
  pub now : Source
  pub is : source_at new k ≡ Some now
  pub before : BTreeMap ℕ Handed
  pub after : BTreeMap ℕ Handed
  pub moved : step was now before after
  pub from_gone : gone_at before k ≡ handed_gone old k
  pub from_come : come_at before k ≡ handed_come old k
  pub to_gone : handed_gone new k ≡ gone_at after k
  pub to_come : handed_come new k ≡ come_at after k

-- for the node in a place nothing has changed
pub record IsStillAt (old new : Sources) (k : ℕ) : Type 0 where
  pub source : source_at new k ≡ source_at old k
  pub gone : handed_gone new k ≡ handed_gone old k
  pub come : handed_come new k ≡ handed_come old k

-- the sources whose first nodes are in these places have moved, the others are as they were
pub record HaveMoved (step : Step) (places : ℕ → Bool) (old new : Sources) : Type 0 where
  pub moved : (k : ℕ) (was : Source) → source_at old k ≡ Some was → is_led places (lead_of old k) ≡ true → HasMovedAt step old new k was
  pub others : (k : ℕ) → is_led places (lead_of old k) ≡ false → IsStillAt old new k
