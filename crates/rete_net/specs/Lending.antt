-- What a source gives and takes in a turn of one of its nodes.
use Rattle.std.specs.Prelude.{◌≡◌, ℕ, ℤ, Bool, true, List, Option, Some, None}
use Rattle.fx_base.specs.declared.{fact.Fact.{Fact}, value.Value.{Value}}
use Rattle.row_delta.specs.{declared.row.{Named.{Named}, Row.{Row}}, Rows.{has}}
use Rattle.rule_model.specs.{declared.program.Program.{Program}, Distinct.{HaveDistinctTags}, Snapshots.{Snapshot}}
use Rattle.join_tests.specs.Joins.{Look}
use Rattle.condition_rows.specs.Looks.{HasAllOf, NameHeld}
use Rattle.pattern_gate.specs.{Gates.{GateStands, has_good_window}, Moves.{MovesSnapshot}}
use Rattle.candidate_source.specs.{declared.source.Source.{Source}, Doors.{source_candidates, source_gate, source_pattern, is_reached}}
use Rattle.candidate_source.specs.{declared.sources.Sources.{Sources}, Sources.{handed_come, handed_gone, source_at, AreApart, AreLaidAs, HasTurnedAt}}
use Rattle.candidate_source.specs.Sources.{HaveLeftAt}
use Rattle.beta_node.specs.{declared.node.Node.{Node}, Lending.{node_keeps_under, node_value}}
use Rattle.rete_net.specs.{declared.node.NetNode.{NetNode}, Sources.{IsSourced}, Standing.{StandsIn}}

-- the source has turned for the node in a place, by what the clock and these facts change, and this is handed to it
abbrev pub TurnsAt : Program → List Fact → Option Fact → ℤ → Look → Source → Source → ℕ → List Named → List Named → Type 0
TurnsAt p gone come clock look was is k leaving coming = (s next : Snapshot) → has_good_window p (source_pattern was) ≡ true → GateStands p (source_pattern was) (source_gate was) s
    → MovesSnapshot p s next gone come → next.clock ≡ clock → HasTurnedAt p s next was is look k leaving coming

-- The node in a place may take its turn, with this handed to it: its source, if it is of one, has turned for it, and finds it as before.
pub record MayTurnIn (p : Program) (gone : List Fact) (come : Option Fact) (clock : ℤ) (look : Look) (was is : Source) (k : ℕ) (n : NetNode) (leaving coming : List Named) : Type 0 where
  pub sourced : IsSourced was n
  pub turned : TurnsAt p gone come clock look was is k leaving coming
  pub reached : (value : Value) → is_reached is value k ≡ is_reached was value k

abbrev pub MayTurn : Program → List Fact → Option Fact → ℤ → Look → Option Source → Option Source → ℕ → NetNode → List Named → List Named → Type 0
MayTurn p gone come clock look None None k n leaving coming = Unit {0}
MayTurn p gone come clock look None (Some is) k n leaving coming = ⊥
MayTurn p gone come clock look (Some was) None k n leaving coming = ⊥
MayTurn p gone come clock look (Some was) (Some is) k n leaving coming = MayTurnIn p gone come clock look was is k n leaving coming

-- Where a node stands with its source, old candidates left that, of which these are handed to the node in a place.
abbrev pub ForgetsAt : Program → Look → List Named → Source → Source → ℕ → NetNode → List Named → Type 0
ForgetsAt p look names was is k n leaving = (s : Snapshot) (rows : Row → Bool) (forgotten : Named → Bool) → StandsIn p (Some was) k n s rows forgotten → HaveDistinctTags s.facts → HasAllOf look s forgotten → NameHeld s rows
    → HaveLeftAt was is look names k leaving

-- the node in a place may forget, with this handed to it
pub record MayForgetIn (p : Program) (look : Look) (names : List Named) (was is : Source) (k : ℕ) (n : NetNode) (leaving : List Named) : Type 0 where
  pub sourced : IsSourced was n
  pub left : ForgetsAt p look names was is k n leaving
  pub reached : (value : Value) → is_reached is value k ≡ is_reached was value k

abbrev pub MayForget : Program → Look → List Named → Option Source → Option Source → ℕ → NetNode → List Named → Type 0
MayForget p look names None None k n leaving = Unit {0}
MayForget p look names None (Some is) k n leaving = ⊥
MayForget p look names (Some was) None k n leaving = ⊥
MayForget p look names (Some was) (Some is) k n leaving = MayForgetIn p look names was is k n leaving

-- a source is the same for the node in a place
pub record IsSameIn (old new : Source) (k : ℕ) : Type 0 where
  pub gate : source_gate new ≡ source_gate old
  pub candidates : source_candidates new ≡ source_candidates old
  pub reached : (value : Value) → is_reached new value k ≡ is_reached old value k

abbrev pub IsSameFor : Option Source → Option Source → ℕ → Type 0
IsSameFor None None k = Unit {0}
IsSameFor None (Some new) k = ⊥
IsSameFor (Some old) None k = ⊥
IsSameFor (Some old) (Some new) k = IsSameIn old new k

-- Behind a turn of the node in a place, in which these rows came, it is found under their values, and where it was found and still keeps a
-- row. Others are found as they were; gate and candidates are those that there were.
pub record IsFoundAnew (n : Node) (look : Look) (k : ℕ) (come : List Row) (old new : Source) : Type 0 where
  pub gate : source_gate new ≡ source_gate old
  pub candidates : source_candidates new ≡ source_candidates old
  pub came : (row : Row) → has come row ≡ true → is_reached new (node_value n look row) k ≡ true
  pub kept : (value : Value) (row : Row) → is_reached old value k ≡ true → node_keeps_under n value row ≡ true → is_reached new value k ≡ true
  pub others : (value : Value) (j : ℕ) → (j ≡ k → ⊥) → is_reached new value j ≡ is_reached old value j

-- What becomes of sources in a turn of the node in a place: they are the same for all others, to which the same is handed.
pub record AreLentAs (place : ℕ) (old new : Sources) : Type 0 where
  pub laid : AreLaidAs old new
  pub each : (k : ℕ) → (k ≡ place → ⊥) → IsSameFor (source_at old k) (source_at new k) k
  pub gone : (k : ℕ) → (k ≡ place → ⊥) → handed_gone new k ≡ handed_gone old k
  pub come : (k : ℕ) → (k ≡ place → ⊥) → handed_come new k ≡ handed_come old k
  pub apart : AreApart old → AreApart new
