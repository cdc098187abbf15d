use Rattle.rete_net.proofs.Common.{◌≡◌, ◌∙◌, sym, ap, subst, true, List, to_z, of_z, to_z-of_z, w64, SFits, get, nat_cmp, Named, Row, has, Pattern, lent}
use Rattle.rete_net.proofs.Common.{Snapshot, IsNameDifference, row_naming, has_name, no_names, candidates_of, GateStands, has_good_window, IsOrderly, half_in}
use Rattle.rete_net.proofs.Siblings.{names_load}
use Rattle.rete_net.proofs.node.NetNode.load_member.Goals as goal

pub returns-clause-loads : goal.returns-clause-loads
returns-clause-loads g c p was kept theirs_are of halved =
    let theirs = lent c.args.given.now.theirs.now in
    let clock = c.args.given.now.moment.now.clock in
    let gate = c.in_ok-gate.gate in
    let come = c.in_ok-gate.come in
    let fits : SFits w64 clock = search in
    let whole : to_z w64 (of_z w64 clock) ≡ clock = to_z-of_z fits in
    names_load p (g.F.Facts.map c.args.facts.now) kept c.args.given.now.extras.now c.args.given.now.moment.now c.args.self.now gate was c.args.given.now.rows.now c.deref.result.now c.args.half c.in_ok-delta.delta come theirs
    c.args.fans.now.list.items c.turn_names.new.self.list.items c.args.seat of halved c.in_ok-delta.ensures.turned theirs_are
    (subst (λ (q : Pattern). (s : Snapshot) → has_good_window p q ≡ true → IsOrderly p s → s.facts ≡ theirs → s.clock ≡ clock → GateStands p q gate s) c.pattern.ensures
    (λ s good orderly facts at. c.in_ok-gate.ensures.stands p s good orderly facts (at ∙ sym whole)))
    (subst (λ (q : Pattern). (s : Snapshot) → has_good_window p q ≡ true → IsOrderly p s → s.facts ≡ theirs → s.clock ≡ clock → IsNameDifference no_names (candidates_of p q s) come) c.pattern.ensures
    (λ s good orderly facts at. c.in_ok-gate.ensures.candidates p s good orderly facts (at ∙ sym whole)))
    (λ who. ap (λ (names : List Named). has_name names who) c.deref.ensures.value ∙ c.in_ok-candidates.ensures who ∙ ap (λ (rows : List Row). has rows (row_naming who)) c.as_slice.ensures)

pub returns-clause-others : goal.returns-clause-others
returns-clause-others g c other differ = (c.in_ok-delta.ensures.others other differ, ap (λ halves. half_in other.member (get nat_cmp halves other.fan)) c.in_ok-delta.ensures.halves)
