-- A node that a step does not reach stays as it is, and nothing changes in the rows of its condition.
use Rattle.rete_net.proofs.Common.{◌≡◌, ◌∙◌, sym, ap, refl, subst, ◌||◌, not, Bool, true, false, ℤ, List, map, Option, None, Fact, Delta, Row, has}
use Rattle.rete_net.proofs.Common.{changes_nothing, Program, Moment, IsAt, snapshot_at, pattern_of, Snapshot, floor, is_whole, Pattern, WindowTag, Whole, Time}
use Rattle.rete_net.proofs.Common.{Length, Look, KeepsWindow, window_kept, window_of, Arrival, rows_inside, named_of, single, Kept, inside_whole, arrivals}
use Rattle.rete_net.proofs.Common.{window_kind_of, is_one_meant, PatternGate, same_arrivals, stands_still, same_candidates, Node, condition_of, is_negated}
use Rattle.rete_net.proofs.Common.{Stays, TellsNothing, join_still, join_tells_nothing, exists_still, exists_tells_nothing, fold_still, fold_tells_nothing}
use Rattle.rete_net.proofs.Common.{not_still, not_tells_nothing, NetNode, is_changed_by_clock, IsGateStill, IsStillAt, no_change, NodeStep, blocking_pattern}
use Rattle.{rete_net.proofs.Common.{Gate}, not_node.specs.{Doors.{awaited_entry}, declared.node.NotNode.{NotNode}}}
use Rattle.window_gate.specs.declared.change.WindowKind.{WindowKind}
use Rattle.window_gate.specs.declared.gate.Kept.TheVariants as kept
use Rattle.beta_node.specs.declared.node.Node.TheVariants as node
use Rattle.{beta_node.proofs.Turning.{floor_told}, rete_net.proofs.Skipping.{GateStays, skipped}, fx_base.proofs.Tests.{or_first_false}}

pub neither_right : (a b : Bool) → (a || not b) ≡ false → b ≡ true
neither_right true b e = absurd (let no : true ≡ false = e in cc)
neither_right false true e = refl
neither_right false false e = sym e

-- ---- without a window, where no fact is meant

keeps_whole : (w : WindowTag) → is_whole w ≡ true → (k : Kept) → window_kept k ≡ window_kind_of w → (list : List Arrival) (now : ℤ) → KeepsWindow k list now
keeps_whole w e kept.Whole is list now = tt
keeps_whole Whole e (kept.Time window) is list now = absurd cc
keeps_whole (Time span) e (kept.Time window) is list now = absurd (let n : false ≡ true = e in cc)
keeps_whole (Length count) e (kept.Time window) is list now = absurd (let n : false ≡ true = e in cc)
keeps_whole Whole e (kept.Length window) is list now = absurd cc
keeps_whole (Time span) e (kept.Length window) is list now = absurd (let n : false ≡ true = e in cc)
keeps_whole (Length count) e (kept.Length window) is list now = absurd (let n : false ≡ true = e in cc)

-- so it is with what a gate keeps
gate_keeps_whole : (w : WindowTag) → is_whole w ≡ true → (gate : Gate) → window_of gate ≡ window_kind_of w → (list : List Arrival) (now : ℤ) → KeepsWindow gate.kept list now
gate_keeps_whole w e gate is list now = keeps_whole w e gate.kept is list now

rows_whole : (w : WindowTag) → is_whole w ≡ true → (was now : ℤ) (list : List Arrival) → rows_inside (window_kind_of w) was list ≡ rows_inside (window_kind_of w) now list
rows_whole Whole e was now list = ap (λ (xs : List Arrival). map single (map named_of xs)) (inside_whole was list ∙ sym (inside_whole now list))
rows_whole (Time span) e was now list = absurd (let n : false ≡ true = e in cc)
rows_whole (Length count) e was now list = absurd (let n : false ≡ true = e in cc)

-- what is inside does not depend on the clock
pub inside_still : (q : Pattern) (gate : PatternGate) → is_whole q.window ≡ true → window_of gate.gate ≡ window_kind_of q.window → (was now : ℤ) (list : List Arrival) (row : Row)
    → has (rows_inside (window_of gate.gate) now list) row ≡ has (rows_inside (window_of gate.gate) was list) row
inside_still q gate whole window was now list row =
    ap (λ (rows : List Row). has rows row) (subst (λ (k : WindowKind). rows_inside k now list ≡ rows_inside k was list) (sym window) (rows_whole q.window whole now was list))

pub gate_stays : (p : Program) (q : Pattern) (gate : PatternGate) (gone : List Fact) (come : Option Fact) (clock : ℤ) → is_whole q.window ≡ true → is_one_meant q gone come ≡ false → GateStays p q gate gone come clock
gate_stays p q gate gone come clock whole none = record {
  stands = λ s next stands moves at. stands_still p q s next moves.before moves.after (same_arrivals p q s next gone come moves none) gate stands (record {
    tags = stands.stands.tags;
    keeps = gate_keeps_whole q.window whole gate.gate stands.window (arrivals p q s) next.clock;
  });
  candidates = λ s next stands moves at. same_candidates p q s next moves.before moves.after (same_arrivals p q s next gone come moves none) gate stands
      (inside_still q gate whole stands.window s.clock next.clock (arrivals p q s));
}

-- ---- nodes that are no `not`

module _ (p : Program) (moment : Moment) where
  stays : (n : Node) → is_negated (condition_of n) ≡ false → Stays p moment n
  stays (node.Join join) e = join_still p moment join
  stays (node.Not waiting) e = absurd (let no : true ≡ false = e in cc)
  stays (node.Exists tally) e = exists_still p moment tally
  stays (node.Fold fold) e = fold_still p moment fold

  tells_nothing : (n : Node) → is_negated (condition_of n) ≡ false → TellsNothing p moment n
  tells_nothing (node.Join join) e = join_tells_nothing p moment join
  tells_nothing (node.Not waiting) e = absurd (let no : true ≡ false = e in cc)
  tells_nothing (node.Exists tally) e = exists_tells_nothing p moment tally
  tells_nothing (node.Fold fold) e = fold_tells_nothing p moment fold

-- ---- nodes of any kind by a floor

module _ (p : Program) (moment : Moment) where
  abbrev pub told : Node → ℤ
  told n = floor p (snapshot_at moment) (pattern_of (condition_of n)).entry.0

  told_is : (waiting : NotNode) (next : Snapshot) → IsAt next moment → told (node.Not waiting) ≡ floor p next (awaited_entry waiting)
  told_is waiting next at = floor_told p moment (blocking_pattern waiting) (blocking_pattern waiting) (told (node.Not waiting)) refl refl next at

  stays_at : (n : Node) → IsStillAt n (told n) → Stays p moment n
  stays_at (node.Join join) still = join_still p moment join
  stays_at (node.Not waiting) still = not_still p moment waiting (told (node.Not waiting)) (told_is waiting) still
  stays_at (node.Exists tally) still = exists_still p moment tally
  stays_at (node.Fold fold) still = fold_still p moment fold

  tells_nothing_at : (n : Node) → IsStillAt n (told n) → TellsNothing p moment n
  tells_nothing_at (node.Join join) still = join_tells_nothing p moment join
  tells_nothing_at (node.Not waiting) still = not_tells_nothing p moment waiting (told (node.Not waiting)) (told_is waiting) still
  tells_nothing_at (node.Exists tally) still = exists_tells_nothing p moment tally
  tells_nothing_at (node.Fold fold) still = fold_tells_nothing p moment fold

-- nothing is due in a node and its own gate
pub record IsNotDue (p : Program) (n : NetNode) (moment : Moment) : Type 0 where
  pub gate : IsGateStill n.gate moment.clock
  pub node : IsStillAt n.node (told p moment n.node)

-- a step does not reach a node with a gate of its own but by what changes in the rows of its parent
pub record IsAlone (p : Program) (n : NetNode) (first : Delta) (gone : List Fact) (come : Option Fact) (moment : Moment) : Type 0 where
  pub unmeant : is_one_meant (pattern_of (condition_of n.node)) gone come ≡ false
  pub begun : n.parent ≡ None → changes_nothing first ≡ true
  pub undue : is_changed_by_clock n ≡ true → IsNotDue p n moment

-- the gate of a node that is no `not` stays as it is
pub alone_gate : (p : Program) (gone : List Fact) (come : Option Fact) (moment : Moment) (first : Delta) (n : NetNode) → IsAlone p n first gone come moment → is_negated (condition_of n.node) ≡ false
    → (other : Program) → GateStays other (pattern_of (condition_of n.node)) n.gate gone come moment.clock
alone_gate p gone come moment first n alone joins other = by (is_whole (pattern_of (condition_of n.node)).window) refl
  where
    by : (w : Bool) → is_whole (pattern_of (condition_of n.node)).window ≡ w → GateStays other (pattern_of (condition_of n.node)) n.gate gone come moment.clock
    by true whole = gate_stays other (pattern_of (condition_of n.node)) n.gate gone come moment.clock whole alone.unmeant
    by false part =
        let undue = alone.undue (ap (λ b. b || not (is_whole (pattern_of (condition_of n.node)).window)) joins ∙ ap not part) in
        record {
          stands = λ s next stands moves at. undue.gate.stands other (pattern_of (condition_of n.node)) s next gone come alone.unmeant stands moves at;
          candidates = λ s next stands moves at. undue.gate.candidates other (pattern_of (condition_of n.node)) s next gone come alone.unmeant stands moves at;
        }

module _ (p : Program) (look : Look) (gone : List Fact) (come : Option Fact) (moment : Moment) (first : Delta) (n : NetNode) (left : Delta) (alone : IsAlone p n first gone come moment) (none : changes_nothing left ≡ true) where
  abbrev asked : Pattern
  asked = pattern_of (condition_of n.node)

  by_time : IsNotDue p n moment → NodeStep p look gone come moment n n left no_change
  by_time undue =
      skipped p look gone come moment n left (record {
        stands = λ s next stands moves at. undue.gate.stands p asked s next gone come alone.unmeant stands moves at;
        candidates = λ s next stands moves at. undue.gate.candidates p asked s next gone come alone.unmeant stands moves at;
      })
      (stays_at p moment n.node undue.node) (tells_nothing_at p moment n.node undue.node) none

  untimed : is_changed_by_clock n ≡ false → NodeStep p look gone come moment n n left no_change
  untimed e =
      let joins : is_negated (condition_of n.node) ≡ false = or_first_false (is_negated (condition_of n.node)) (not (is_whole asked.window)) e in
      let whole : is_whole asked.window ≡ true = neither_right (is_negated (condition_of n.node)) (is_whole asked.window) e in
      skipped p look gone come moment n left (gate_stays p asked n.gate gone come moment.clock whole alone.unmeant) (stays p moment n.node joins) (tells_nothing p moment n.node joins) none

  pub alone_stays : NodeStep p look gone come moment n n left no_change
  alone_stays = by (is_changed_by_clock n) refl
    where
      by : (t : Bool) → is_changed_by_clock n ≡ t → NodeStep p look gone come moment n n left no_change
      by true e = by_time (alone.undue e)
      by false e = untimed e
