-- Until when the nodes that time alone may change stay as they are.
use Rattle.std.specs.Prelude.{◌≡◌, ℕ, ℤ, Bool, true, false, List, Option, Some, None, IfSome, slice_get}
use Rattle.fx_base.specs.declared.fact.Fact.{Fact}
use Rattle.row_delta.specs.declared.{delta.Delta.{Delta}, row.Named.{Named}}
use Rattle.rule_model.specs.{declared.{condition.Pattern.{Pattern}, program.Program.{Program}, moment.Moment.{Moment}}, Moments.{snapshot_at}}
use Rattle.rule_model.specs.{Rows.{pattern_of}, Snapshots.{Snapshot, floor}}
use Rattle.condition_rows.specs.Sets.{candidates_of}
use Rattle.not_node.specs.{Waiting.{NoneDue}, Doors.{waiting_rows}}
use Rattle.pattern_gate.specs.{declared.gate.PatternGate.{PatternGate}, Gates.{GateStands}, Moves.{MovesSnapshot}, Turns.{is_one_meant}}
use Rattle.join_memory.specs.declared.candidates.Candidates.{Candidates}
use Rattle.row_change.specs.Changes.{changes_nothing}
use Rattle.candidate_source.specs.{declared.{source.Source.{Source}, sources.Sources.{Sources}}, Doors.{source_gate}, Sources.{source_at, is_follower, is_lead}}
use Rattle.beta_node.specs.{Lending.{with_candidates}, Nodes.{condition_of}, Quiet.{IsBefore, IsQuiet}, declared.node.Node.{Node}}
use Rattle.beta_node.specs.declared.node.Node.TheVariants as node
use Rattle.rete_net.specs.{declared.{node.NetNode.{NetNode}, schedule.{EntryTimers.{EntryTimers}, Schedule.{Schedule}}}, Indexes.{is_changed_by_clock}}
use Rattle.rete_net.specs.Timers.{IsFrom, IsSet}

-- the place of the entry point of a node's candidates
abbrev pub entry_point_of : NetNode → ℕ
entry_point_of n = (pattern_of (condition_of n.node)).entry.0

-- a gate stays as it is at this clock, and with it the candidates, where no fact that goes or comes is meant
pub record IsGateStill (gate : PatternGate) (clock : ℤ) : Type 0 where
  pub stands : (p : Program) (q : Pattern) (s next : Snapshot) (gone : List Fact) (come : Option Fact) → is_one_meant q gone come ≡ false → GateStands p q gate s → MovesSnapshot p s next gone come → next.clock ≡ clock
      → GateStands p q gate next
  pub candidates : (p : Program) (q : Pattern) (s next : Snapshot) (gone : List Fact) (come : Option Fact) → is_one_meant q gone come ≡ false → GateStands p q gate s → MovesSnapshot p s next gone come → next.clock ≡ clock
      → (who : Named) → candidates_of p q next who ≡ candidates_of p q s who

-- no row of a `not` waits for a moment below this floor
abbrev pub IsStillAt : Node → ℤ → Type 0
IsStillAt (node.Join join) floor = Unit {0}
IsStillAt (node.Not waiting) floor = NoneDue (waiting_rows waiting) floor
IsStillAt (node.Exists tally) floor = Unit {0}
IsStillAt (node.Fold fold) floor = Unit {0}

-- the gate of which the schedule tells in a place: the node's own, or, at the first node of a source, that of the source
abbrev pub timed_gate : Option Source → Bool → NetNode → Option PatternGate
timed_gate None leads n = Some n.gate
timed_gate (Some s) true n = Some (source_gate s)
timed_gate (Some s) false n = None

abbrev pub gate_told : Sources → ℕ → NetNode → Option PatternGate
gate_told sources k n = timed_gate (source_at sources k) (is_lead sources k) n

-- nothing is due in a node at this moment, nor in the gate of which the schedule tells in its place
pub record IsUndue (p : Program) (sources : Sources) (k : ℕ) (n : NetNode) (moment : Moment) : Type 0 where
  pub gate : IfSome (gate_told sources k n) (λ gate. IsGateStill gate moment.clock)
  pub node : IsStillAt n.node (floor p (snapshot_at moment) (entry_point_of n))

-- a step does not reach the node but by what changes in the rows of its parent, and by what its source hands to it, if it is of one
pub record IsLeftAlone (p : Program) (sources : Sources) (k : ℕ) (n : NetNode) (first : Delta) (gone : List Fact) (come : Option Fact) (moment : Moment) : Type 0 where
  pub unmeant : is_follower sources k ≡ false → is_one_meant (pattern_of (condition_of n.node)) gone come ≡ false
  pub begun : n.parent ≡ None → changes_nothing first ≡ true
  pub undue : is_changed_by_clock n ≡ true → IsUndue p sources k n moment

-- The node in a place stands under a moment of the clock until which it is quiet, whatever candidates are lent to it, and until which the
-- gate of which the schedule tells there is still; and under one up to which the floor of its entry point lets no row come.
pub record IsScheduled (p : Program) (sources : Sources) (schedule : Schedule) (k : ℕ) (n : NetNode) : Type 0 where
  pub until : Option ℤ
  pub set : IsSet schedule.clock k until
  pub quiet : IsQuiet p n.node until
  pub lent : (own : Candidates) → IsQuiet p (with_candidates own n.node) until
  pub gate : IfSome (gate_told sources k n) (λ gate. (clock : ℤ) → IsBefore until clock → IsGateStill gate clock)
  pub line : ℕ
  pub timers : EntryTimers
  pub found : slice_get schedule.floors.items line ≡ Some timers
  pub entry : timers.entry.0 ≡ entry_point_of n
  pub up_to : Option ℤ
  pub waits : IsSet timers.timers k up_to
  pub still : (floor : ℤ) → IsFrom floor up_to → IsStillAt n.node floor

-- so does each node that time alone may change
abbrev pub AreScheduled : Program → Sources → List NetNode → Schedule → Type 0
AreScheduled p sources nodes schedule = (k : ℕ) (n : NetNode) → slice_get nodes k ≡ Some n → is_changed_by_clock n ≡ true → IsScheduled p sources schedule k n
