use Rattle.rete_net.proofs.Common.{◌≡◌, ◌∙◌, ap, sym, subst, true, List, to_z, of_z, to_z-of_z, w64, SFits, Named, Row, has, Pattern, lent, Snapshot}
use Rattle.rete_net.proofs.Common.{IsNameDifference, row_naming, has_name, no_names, candidates_of, GateStands, has_good_window, IsOrderly}
use Rattle.rete_net.proofs.Filled.{loads_node}
use Rattle.rete_net.proofs.node.NetNode.load.Goals as goal

pub returns-clause-loads : goal.returns-clause-loads
returns-clause-loads g c kept theirs_are =
    let p = c.args.program.now in
    let theirs = lent c.args.theirs.now in
    let clock = c.args.moment.now.clock in
    let gate = c.in_ok-gate.gate in
    let come = c.in_ok-gate.come in
    let fits : SFits w64 clock = search in
    let whole : to_z w64 (of_z w64 clock) ≡ clock = to_z-of_z fits in
    loads_node p (g.F.Facts.map c.args.facts.now) kept c.args.extras.now c.args.moment.now c.args.self.now gate c.load-2.new.self c.args.rows.now c.in_ok-delta.delta come c.deref.result.now theirs theirs_are
    (subst (λ (q : Pattern). (s : Snapshot) → has_good_window p q ≡ true → IsOrderly p s → s.facts ≡ theirs → s.clock ≡ clock → GateStands p q gate s) c.pattern.ensures
    (λ s good orderly facts at. c.in_ok-gate.ensures.stands p s good orderly facts (at ∙ sym whole)))
    (subst (λ (q : Pattern). (s : Snapshot) → has_good_window p q ≡ true → IsOrderly p s → s.facts ≡ theirs → s.clock ≡ clock → IsNameDifference no_names (candidates_of p q s) come) c.pattern.ensures
    (λ s good orderly facts at. c.in_ok-gate.ensures.candidates p s good orderly facts (at ∙ sym whole)))
    (λ who. ap (λ (names : List Named). has_name names who) c.deref.ensures.value ∙ c.in_ok-candidates.ensures who ∙ ap (λ (rows : List Row). has rows (row_naming who)) c.as_slice.ensures)
    c.in_ok-delta.ensures.condition c.in_ok-delta.ensures.laden c.in_ok-delta.ensures.difference
