-- What a step and forgetting do with candidates that are kept once, and what of it is handed to the nodes.
use Rattle.std.specs.{Prelude.{◌≡◌, ◌&&◌, ◌||◌, not, ℕ, Bool, List, []}, BTreeMap.{BTreeMap}}
use Rattle.row_delta.specs.{declared.{delta.Delta.{Delta}, row.Named.{Named}}, Rows.{has}}
use Rattle.rule_model.specs.{declared.program.Program.{Program}, Snapshots.{Snapshot}}
use Rattle.join_tests.specs.{Joins.{Look}, Kept.{rows_sought}}
use Rattle.join_memory.specs.{declared.memories.Memories.{Memories}, Apart.{has_candidate}, Inputs.{row_naming, IsNameDifference}, Joined.{has_name}}
use Rattle.join_memory.specs.{Joined.{AreDistinct}, Shared.{sharing, KeepsAlike, KeepsNames, TakesOver, ForgoesOld}}
use Rattle.condition_rows.specs.Sets.{candidates_of}
use Rattle.pattern_gate.specs.Gates.{GateStands}
use Rattle.candidate_source.specs.{declared.{handed.Handed.{Handed}, source.Source.{Source}}, Handed.{gone_at, come_at, IsUnhanded}, Reached.{is_under_one}}
use Rattle.candidate_source.specs.Reached.{IsReached, IsUnreached}

-- the node in a place is found under a value of the rows that are sought for the candidate
abbrev pub concerns : Source → Look → Named → ℕ → Bool
concerns s look who k = is_under_one s.reached (rows_sought s.own.pattern look who) k

-- the candidates of a test, each once
pub record AreOnce (test : Named → Bool) (names : List Named) : Type 0 where
  pub once : AreDistinct names
  pub each : (who : Named) → has_name names who ≡ test who

-- to the nodes that are found under no value nothing more is handed
abbrev pub LeavesOthers : Source → BTreeMap ℕ Handed → BTreeMap ℕ Handed → Type 0
LeavesOthers s before after = (k : ℕ) → IsUnreached s.reached k → (gone_at after k ≡ gone_at before k) × (come_at after k ≡ come_at before k)

-- ---- parts of a turn

-- these candidates left, and those that were there are handed to the nodes that they concern
pub record HaveLeft (old new : Source) (look : Look) (names : List Named) (before after : BTreeMap ℕ Handed) : Type 0 where
  pub gate : new.gate ≡ old.gate
  pub reached : new.reached ≡ old.reached
  pub kept : KeepsNames old.own new.own look (λ who. has_candidate old.own look who && not (has_name names who))
  pub gone : (k : ℕ) → IsUnhanded before k → AreOnce (λ who. has_name names who && (has_candidate old.own look who && concerns old look who k)) (gone_at after k)
  pub come : (k : ℕ) → come_at after k ≡ come_at before k
  pub others : LeavesOthers old before after

-- these came, and those that were not there are
pub record HaveCome (old new : Source) (look : Look) (names : List Named) (before after : BTreeMap ℕ Handed) : Type 0 where
  pub gate : new.gate ≡ old.gate
  pub reached : new.reached ≡ old.reached
  pub kept : KeepsNames old.own new.own look (λ who. has_candidate old.own look who || has_name names who)
  pub gone : (k : ℕ) → gone_at after k ≡ gone_at before k
  pub come : (k : ℕ) → come_at before k ≡ [] → AreOnce (λ who. has_name names who && (not (has_candidate old.own look who) && concerns old look who k)) (come_at after k)
  pub others : LeavesOthers old before after

-- ---- a turn

-- The gate takes a step from a snapshot to the next. The candidates take its difference; of those that went by it, and of those that came,
-- each is handed, once, to the nodes that it concerns.
pub record HasTurned (p : Program) (s next : Snapshot) (old new : Source) (look : Look) (before after : BTreeMap ℕ Handed) : Type 0 where
  pub gate : GateStands p old.own.pattern new.gate next
  pub right : Delta
  pub difference : IsNameDifference (candidates_of p old.own.pattern s) (candidates_of p old.own.pattern next) right
  pub kept : KeepsNames old.own new.own look (λ who. (has_candidate old.own look who && not (has right.gone (row_naming who))) || has right.come (row_naming who))
  pub gone : (k : ℕ) → IsUnhanded before k → AreOnce (λ who. has right.gone (row_naming who) && (has_candidate old.own look who && concerns old look who k)) (gone_at after k)
  pub come : (k : ℕ) → IsUnhanded before k → AreOnce (λ who. has right.come (row_naming who) && (not (has_candidate old.own look who) && concerns old look who k)) (come_at after k)

-- ---- what it is for a node

-- A node that keeps candidates alike and is found under the values of its left rows takes over the candidates that have turned with what is
-- handed to it.
abbrev pub TurnLaw : Type 0 → Type 0
TurnLaw S = (p : Program) (s next : Snapshot) (old new : Source) (look : Look) (before after : BTreeMap ℕ Handed) (turned : HasTurned p s next old new look before after)
    (k : ℕ) (m : Memories S) → IsUnhanded before k → KeepsAlike m old.own → IsReached old.reached k m
    → TakesOver (sharing m new.own) old.own look turned.right (gone_at after k) (come_at after k)

-- So it forgoes old ones that were taken out, and nothing else is handed to it.
abbrev pub ForgetLaw : Type 0 → Type 0
ForgetLaw S = (old new : Source) (look : Look) (names : List Named) (before after : BTreeMap ℕ Handed) → HaveLeft old new look names before after
    → (k : ℕ) (m : Memories S) → IsUnhanded before k → KeepsAlike m old.own → IsReached old.reached k m
    → ForgoesOld (sharing m new.own) old.own look (has_name names) (gone_at after k) × (come_at after k ≡ [])
