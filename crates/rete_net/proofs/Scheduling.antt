-- The schedule of the nodes, as one of them is put anew.
use Rattle.rete_net.proofs.Common.{◌≡◌, ◌∙◌, sym, ap, refl, subst, Bool, ℕ, ℤ, ◌+ℤ◌, pos, List, Option, Some, None, true, false, slice_get, inl, inr, arith}
use Rattle.rete_net.proofs.Common.{set, ints, IfSome, Row, Moment, Program, snapshot_at, floor, IsBefore, IsQuiet, Node, NetNode, EntryTimers, Schedule}
use Rattle.rete_net.{proofs.Common.{entry_point_of, IsScheduled, IsUndue, IsFrom, IsSet, PatternGate}, specs.Schedules.{gate_told, timed_gate}}
use Rattle.candidate_source.specs.{declared.{source.Source.{Source}, sources.Sources.{Sources}}, Doors.{source_gate}, Sources.{is_lead, source_at}}
use Rattle.not_node.specs.Waiting as waiting
use Rattle.{rete_net.proofs.Walking.{equal_or_not}, fx_base.proofs.{Orders.{int_lt-le as at_floor}, Sequences.{get-set_other, get-set_same, one_value}}}

pub if_some : {A : Type 0} {P Q : A → Type 0} (o : Option A) → ((x : A) → P x → Q x) → IfSome o P → IfSome o Q
if_some None weaker is = is
if_some (Some x) weaker is = weaker x is

-- ---- the gate of which the schedule tells

pub told_own : (sources : Sources) (k : ℕ) (n : NetNode) (P : PatternGate → Type 0) → source_at sources k ≡ None → P n.gate → IfSome (gate_told sources k n) P
told_own sources k n P none is = subst (λ (o : Option Source). IfSome (timed_gate o (is_lead sources k) n) P) (sym none) is

pub told_lead : (sources : Sources) (k : ℕ) (n : NetNode) (P : PatternGate → Type 0) (s : Source) → source_at sources k ≡ Some s → is_lead sources k ≡ true → P (source_gate s) → IfSome (gate_told sources k n) P
told_lead sources k n P s of leads is =
    subst (λ (o : Option Source). IfSome (timed_gate o (is_lead sources k) n) P) (sym of) (subst (λ (leads : Bool). IfSome (timed_gate (Some s) leads n) P) (sym leads) is)

pub told_none : (sources : Sources) (k : ℕ) (n : NetNode) (P : PatternGate → Type 0) (s : Source) → source_at sources k ≡ Some s → is_lead sources k ≡ false → IfSome (gate_told sources k n) P
told_none sources k n P s of follows = subst (λ (o : Option Source). IfSome (timed_gate o (is_lead sources k) n) P) (sym of) (subst (λ (leads : Bool). IfSome (timed_gate (Some s) leads n) P) (sym follows) tt)

-- a node is quiet until an earlier moment too
pub quiet_sooner : (p : Program) (n : Node) (until sooner : Option ℤ) → ((clock : ℤ) → IsBefore sooner clock → IsBefore until clock) → IsQuiet p n until → IsQuiet p n sooner
quiet_sooner p n until sooner weaker quiet look s rows forgotten clock distinct at_hand named stands begun later low before = quiet look s rows forgotten clock distinct at_hand named stands begun later low (weaker clock before)

-- ---- one node of others

-- the timers of an entry point are there, and a place waits there for what it waited for
abbrev pub IsKept : List EntryTimers → ℕ → EntryTimers → Type 0
IsKept floors k was = (line : ℕ) × (timers : EntryTimers) × (slice_get floors line ≡ Some timers) × (timers.entry.0 ≡ was.entry.0) × ((up_to : Option ℤ) → IsSet was.timers k up_to → IsSet timers.timers k up_to)

-- with the timers of one entry point others are kept
pub kept_beside : (floors : List EntryTimers) (place k : ℕ) (was is : EntryTimers) → slice_get floors place ≡ Some was → is.entry.0 ≡ was.entry.0 → ((up_to : Option ℤ) → IsSet was.timers k up_to → IsSet is.timers k up_to)
    → (line : ℕ) (timers : EntryTimers) → slice_get floors line ≡ Some timers → IsKept (set floors place is) k timers
kept_beside floors place k was is at same kept line timers e = elim (equal_or_not line place) [
  | inl here ↦
      let there : was ≡ timers = one_value (slice_get floors place) was timers at (ap (slice_get floors) (sym here) ∙ e) in
      subst (IsKept (set floors place is) k) there (place, is, get-set_same floors place is was at, same, kept)
  | inr other ↦ (line, timers, get-set_other floors place line is other ∙ e, refl, λ up_to set. set)
]

-- so the node stands under its moments still
pub scheduled_still : (p : Program) (sources : Sources) (old new : Schedule) (k : ℕ) (n : NetNode) → ((until : Option ℤ) → IsSet old.clock k until → IsSet new.clock k until)
    → ((line : ℕ) (timers : EntryTimers) → slice_get old.floors.items line ≡ Some timers → IsKept new.floors.items k timers) → IsScheduled p sources old k n → IsScheduled p sources new k n
scheduled_still p sources old new k n clock lines was =
    let line = lines was.line was.timers was.found in
    record {
      until = was.until;
      set = clock was.until was.set;
      quiet = was.quiet;
      lent = was.lent;
      gate = was.gate;
      line = line.0;
      timers = line.1;
      found = line.2;
      entry = line.3 ∙ was.entry;
      up_to = was.up_to;
      waits = line.4 was.up_to was.waits;
      still = was.still;
    }

-- ---- one node at a moment

before_next : (until : Option ℤ) (clock : ℤ) → IsFrom (clock +ℤ pos 1) until → IsBefore until clock
before_next None clock h = tt
before_next (Some at) clock h = omega (arith, ints, h)

-- what no timer is due for stays as it is
pub undue : (p : Program) (sources : Sources) (schedule : Schedule) (k : ℕ) (n : NetNode) (moment : Moment) (is : IsScheduled p sources schedule k n) → IsFrom (moment.clock +ℤ pos 1) is.until
    → IsFrom (floor p (snapshot_at moment) is.timers.entry.0) is.up_to → IsUndue p sources k n moment
undue p sources schedule k n moment is clock low = record {
  gate = if_some (gate_told sources k n) (λ gate still. still moment.clock (before_next is.until moment.clock clock)) is.gate;
  node = is.still (floor p (snapshot_at moment) (entry_point_of n)) (subst (λ (entry : ℕ). IsFrom (floor p (snapshot_at moment) entry) is.up_to) is.entry low);
}

-- ---- a `not`

-- no row waits for a moment below a floor that is not above the least one
pub none_below : (pairs : List (ℤ × Row)) (least : Option ℤ) (floor : ℤ) → ((at : ℤ) (row : Row) → waiting.waits pairs at row ≡ true → waiting.IsMomentFrom least at) → IsFrom floor least → waiting.NoneDue pairs floor
none_below pairs None floor over low at row e = absurd (over at row e)
none_below pairs (Some least) floor over low at row e = at_floor at least floor (over at row e) low
