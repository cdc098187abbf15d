-- A member for which what its rows change is nothing, and that nothing else reaches, takes its turn without a look at it.
use Rattle.rete_net.proofs.Common.{◌≡◌, ◌∙◌, sym, ap, refl, subst, ◌&&◌, not, Bool, true, false, List, [], Option, Some, Fact, Delta, Named, Row, has, Plain}
use Rattle.rete_net.proofs.Common.{Pattern, Moment, Program, pattern_of, Snapshot, Look, Candidates, beside, has_left, has_right, candidates_of, NetNode}
use Rattle.rete_net.proofs.Common.{HasNoOld, NodeForgets, Fan, Seat, member_of, showing, IsHalf, IsHalfTurned, IsOfSeat, Member, no_change, NodeStep}
use Rattle.{rete_net.proofs.Common.{condition_of, is_negated, node_moves}, std.proofs.Math.Bool.{or-false}}
use Rattle.{join_memory.specs.{declared.left_rows.LeftRows.{LeftRows}, Memories.{KeepsMemories}}, beta_node.specs.Forgetting.{ForgetsIn}}
use Rattle.beta_node.specs.declared.node.Node.TheVariants as node
use Rattle.{beta_node.proofs.Forgetting.{join_forgot}, rete_net.proofs.{Forgets.{node_forgets}, Lone.{alone_gate, IsAlone}, Siblings.{as_node, own_join}}}
use Rattle.{rete_net.proofs.{Siblings.{shown_is, still_steps, whole_half}, Sparing.{none_old}}, fx_base.proofs.Tests.{and_not_excluded}}

-- in a step
pub idle_steps : (p : Program) (look : Look) (gone : List Fact) (come : Option Fact) (moment : Moment) (first : Delta) (n : NetNode) (was : Option Member) (fans : List Fan) (seat : Seat) (left : Delta)
    → IsAlone p n first gone come moment → IsOfSeat n fans (Some seat) → IsHalf look left.gone left.come was (member_of fans (Some seat)) no_change
    → NodeStep p look gone come moment (showing was n) (showing (member_of fans (Some seat)) n) left no_change
idle_steps p look gone come moment first n was fans seat left alone of halved =
    let gate = alone_gate p gone come moment first n alone (ap is_negated of.2) in
    still_steps p look gone come moment n was left no_change refl fans seat of halved (pattern_of (condition_of n.node)) moment.clock refl refl
    (λ other s next standing moves at. (gate other).stands s next standing moves at)
    (λ other s next standing moves at who. (gate other).candidates s next standing moves at who)

known : (candidate out : Bool) → (candidate && not out) ≡ true → (candidate ≡ true) × (out ≡ false)
known true true e = absurd (let no : false ≡ true = e in cc)
known true false e = (refl, refl)
known false out e = absurd (let no : false ≡ true = e in cc)

module _ (p : Program) (look : Look) (old : Named → Bool) (n : NetNode) (was now : LeftRows) (c : Candidates) (rows : List Row) (none : HasNoOld look old n) (of : condition_of n.node ≡ Plain c.pattern)
    (halved : IsHalfTurned look rows [] was now c no_change) where
  lessened : (s : Snapshot) (left : Row → Bool) (forgotten : Named → Bool) → ForgetsIn p (node.Join (own_join was c)) look s left forgotten old rows
      → KeepsMemories (beside was c) (beside now c) look (λ row. has_left (beside was c) look row && not (has rows row)) (λ who. has_right (beside was c) look who && not (old who))
  lessened s left forgotten is = record {
    pattern = halved.kept.pattern;
    rows = λ row. halved.kept.rows row ∙ or-false (has_left (beside was c) look row && not (has rows row));
    names = λ who.
        halved.kept.names who
        ∙ and_not_excluded (has_right (beside was c) look who) (old who) (λ e.
        let kept = known (candidates_of p c.pattern s who) (forgotten who) (sym (is.stands.names who) ∙ e) in
        none_old p look s forgotten old n none is.tags is.at_hand who (ap (λ (q : Pattern). candidates_of p q s who) (ap pattern_of of) ∙ kept.0) kept.1);
    agrees = halved.kept.agrees;
  }

  forgot : NodeForgets p look old (as_node n was c) (as_node n now c) rows []
  forgot =
      let join = own_join was c in
      let join_now = own_join now c in
      node_forgets p look old (as_node n was c) (as_node n now c) rows []
      (λ p node look other s rows forgotten known known_other named. node_moves p look other s rows forgotten known known_other named node) refl refl (ap Plain halved.kept.pattern)
      (λ s left forgotten is. (join_forgot p look old rows [] join join_now (lessened s left forgotten is) halved.difference.leads.goes halved.difference.gone_in_order (node.Join join) refl).stands s left forgotten is)
      (λ s left forgotten is. (join_forgot p look old rows [] join join_now (lessened s left forgotten is) halved.difference.leads.goes halved.difference.gone_in_order (node.Join join) refl).drops s left forgotten is)
      (λ s left forgotten is. (join_forgot p look old rows [] join join_now (lessened s left forgotten is) halved.difference.leads.goes halved.difference.gone_in_order (node.Join join) refl).alone s left forgotten is)
      (λ s left forgotten is. halved.difference.gone_in_order)

pub idle_forgets : (p : Program) (look : Look) (old : Named → Bool) (n : NetNode) (was : Option Member) (fans : List Fan) (seat : Seat) (rows : List Row)
    → HasNoOld look old n → IsOfSeat n fans (Some seat) → IsHalf look rows [] was (member_of fans (Some seat)) no_change → NodeForgets p look old (showing was n) (showing (member_of fans (Some seat)) n) rows []
idle_forgets p look old n was fans seat rows none of halved =
    let m = of.0 in
    let whole = whole_half look rows [] n was no_change fans seat of halved in
    subst (λ (o : Option Member). NodeForgets p look old (showing o n) (showing (member_of fans (Some seat)) n) rows []) (sym whole.1)
    (subst (λ (o : Option Member). NodeForgets p look old (showing (Some (record { left = whole.0; own = m.own })) n) (showing o n) rows []) (sym of.1)
    (subst (λ (x : NetNode). NodeForgets p look old x (showing (Some (record { left = m.left; own = m.own })) n) rows []) (sym (shown_is n whole.0 m.own of.2))
    (subst (λ (y : NetNode). NodeForgets p look old (as_node n whole.0 m.own) y rows []) (sym (shown_is n m.left m.own of.2))
    (forgot p look old n whole.0 m.left m.own rows none of.2 whole.2))))
