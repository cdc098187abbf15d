use Rattle.rete_net.proofs.Common.{◌≡◌, ◌∙◌, sym, refl, subst, to_z, of_z, to_z-of_z, w64, SFits, option_map, Delta, lent, node_moves, NodeStep}
use Rattle.rete_net.proofs.Turning.{node_step}
use Rattle.rete_net.proofs.node.NetNode.advance.Goals as goal

pub returns-then-is_still : goal.returns-then-is_still
returns-then-is_still g c =
    let p = c.args.program.now in
    let look = g.F.Facts.map c.args.facts.now in
    let gone = lent c.args.gone.now in
    let come = option_map (λ f. f.now) c.args.come in
    let node = c.args.self.now in
    let left = c.args.left.now in
    subst (λ (delta : Delta). NodeStep p look gone come c.args.moment.now node node left delta) (sym c.no_change.ensures)
    (c.is_still.ensures c.if-is_still.true look left (sym c.changes_nothing.ensures ∙ c.if-changes_nothing.true))

pub returns : goal.returns
returns g c =
    let clock = c.args.moment.now.clock in
    let fits : SFits w64 clock = search in
    let whole : to_z w64 (of_z w64 clock) ≡ clock = to_z-of_z fits in
    node_step c.args.program.now (g.F.Facts.map c.args.facts.now) (lent c.args.gone.now) (option_map (λ f. f.now) c.args.come) c.args.moment.now
    c.args.self.now (record { parent = c.args.self.now.parent; gate = c.advance.new.self; node = c.advance-2.new.self }) c.args.left.now c.in_ok-right.right c.in_ok-delta.delta
    (λ p node look other s rows forgotten known known_other named. node_moves p look other s rows forgotten known known_other named node) refl c.in_ok-delta.ensures.condition c.pattern.result.now (to_z w64 (of_z w64 clock)) c.pattern.ensures whole
    c.in_ok-right.ensures.stands c.in_ok-right.ensures.difference c.in_ok-delta.ensures.stands c.in_ok-delta.ensures.difference
