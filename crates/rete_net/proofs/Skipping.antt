-- A step in which nothing reaches a node: it stays as it is, and nothing changes in the rows of its condition.
use Rattle.rete_net.proofs.Common.{◌≡◌, sym, refl, subst, ℤ, Bool, true, List, Option, fun_ext, Fact, Delta, Named, Row, IsDifference, changes_nothing, Pattern}
use Rattle.rete_net.proofs.Common.{Program, pattern_of, Snapshot, Look, cleaned, line, candidates_of, GateStands, MovesSnapshot, nothing_differs, PatternGate}
use Rattle.rete_net.proofs.{Common.{condition_of, node_moves, Stays, TellsNothing, NetNode, no_change, NodeStep, Moment}, Turning.{node_step}}
use Rattle.{std.specs.List.Sorted.{IsStrictlySortedBy}, fx_base.proofs.Tests.{and_not_self}}

-- nothing changes in a set that stays
pub no_difference : (rows : Row → Bool) → IsDifference rows rows no_change
unfolding IsStrictlySortedBy
no_difference rows = record {
  gone_in_order = tt;
  come_in_order = tt;
  leads = record { goes = λ row. and_not_self (rows row); comes = λ row. and_not_self (rows row) };
}

-- the gate of a pattern stays as it is, and with it the candidates
pub record GateStays (p : Program) (q : Pattern) (gate : PatternGate) (gone : List Fact) (come : Option Fact) (clock : ℤ) : Type 0 where
  pub stands : (s next : Snapshot) → GateStands p q gate s → MovesSnapshot p s next gone come → next.clock ≡ clock → GateStands p q gate next
  pub candidates : (s next : Snapshot) → GateStands p q gate s → MovesSnapshot p s next gone come → next.clock ≡ clock → (who : Named) → candidates_of p q next who ≡ candidates_of p q s who

-- where the node of a condition stays as it is too, so does the whole
pub skipped : (p : Program) (look : Look) (gone : List Fact) (come : Option Fact) (moment : Moment) (n : NetNode) (left : Delta) → GateStays p (pattern_of (condition_of n.node)) n.gate gone come moment.clock
    → Stays p moment n.node → TellsNothing p moment n.node → changes_nothing left ≡ true
    → NodeStep p look gone come moment n n left no_change
skipped p look gone come moment n left gate stays tells none =
    node_step p look gone come moment n n left no_change no_change
    (λ p node look other s rows forgotten known known_other named. node_moves p look other s rows forgotten known known_other named node) refl refl (pattern_of (condition_of n.node)) moment.clock refl refl
    (λ s next window stands moves at. gate.stands s next stands moves at)
    (λ s next window stands moves at. nothing_differs (candidates_of p (pattern_of (condition_of n.node)) s) (candidates_of p (pattern_of (condition_of n.node)) next) (gate.candidates s next stands moves at) no_change no_difference)
    (λ world s next rows rows_now forgotten stands at turn. stays look world s next rows rows_now forgotten left no_change none refl stands at turn)
    (λ world s next rows rows_now forgotten stands at turn.
    let c = condition_of n.node in
    subst (λ (set : Row → Bool). IsDifference (cleaned (line p s c rows) forgotten) set no_change)
    (sym (fun_ext (tells look world s next rows rows_now forgotten left no_change none refl stands at turn)))
    (no_difference (cleaned (line p s c rows) forgotten)))
