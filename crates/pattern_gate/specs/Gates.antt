-- For which facts of a snapshot the gate of a pattern stands.
use Rattle.std.specs.{Prelude.{◌≡◌, ◌≤ℤ◌, ◌&&◌, ◌||◌, ℤ, Bool, List, map}, List.{filter}}
use Rattle.fx_base.specs.{Lists.{In}, declared.fact.Fact.{Fact}}
use Rattle.rule_model.specs.declared.condition.{Pattern.{Pattern}, WindowTag.{WindowTag}}
use Rattle.rule_model.specs.declared.condition.WindowTag.TheVariants as tag
use Rattle.rule_model.specs.{declared.program.Program.{Program}, Candidates.{fits, candidates}, Simple.{is_whole}, Snapshots.{Snapshot}, Tuples.{name_of}}
use Rattle.rule_model.specs.Types.{is_event}
use Rattle.rule_world.specs.Programs.{is_window}
use Rattle.window_gate.specs.declared.change.WindowKind.{WindowKind}
use Rattle.window_gate.specs.declared.change.WindowKind.TheVariants as kind
use Rattle.window_gate.specs.{Windows.{Arrival}, Standing.{LeavesAt, StandsForArrivals, window_of}}
use Rattle.pattern_gate.specs.declared.gate.PatternGate.{PatternGate}

abbrev pub arrival_of : Fact → Arrival
arrival_of f = record { named = name_of f; start = f.times.start }

-- the facts that fit the pattern, in the order in which they were inserted
abbrev pub arrivals : Program → Pattern → Snapshot → List Arrival
arrivals p pattern s = map arrival_of (filter (fits p pattern s.clock) s.facts)

abbrev pub window_kind_of : WindowTag → WindowKind
window_kind_of tag.Whole = kind.Whole
window_kind_of (tag.Time span) = kind.Time span
window_kind_of (tag.Length count) = kind.Length count

-- the window of the pattern is one that the program of an accepted file may have
abbrev pub has_good_window : Program → Pattern → Bool
has_good_window p pattern = is_whole pattern.window || is_event p pattern.ty.0 && is_window pattern.window

-- the gate has the window of the pattern, and keeps what it needs of the facts of the snapshot that fit the pattern
pub record GateStands (p : Program) (pattern : Pattern) (gate : PatternGate) (s : Snapshot) : Type 0 where
  pub window : window_of gate.gate ≡ window_kind_of pattern.window
  pub stands : StandsForArrivals gate.gate (arrivals p pattern s) s.clock

-- the clock lets a candidate leave the window of the pattern, at this moment or before it
pub record LeavesBy (p : Program) (pattern : Pattern) (s : Snapshot) (clock : ℤ) : Type 0 where
  pub moment : ℤ
  pub candidate : Fact
  pub among : In candidate (candidates p pattern s)
  pub leaves : LeavesAt (window_kind_of pattern.window) (arrival_of candidate) moment
  pub due : moment ≤ℤ clock
