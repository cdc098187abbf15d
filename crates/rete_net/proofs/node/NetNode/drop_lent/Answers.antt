use Rattle.{rete_net.proofs.{Common.{sym, subst, List, Named, either, Node, NodeStands}, Lent.{as_turned}}, beta_node.specs.Forgetting.{ForgetsIn}}
use Rattle.beta_node.specs.Lending.{with_candidates, NodeForgoes}
use Rattle.rete_net.proofs.node.NetNode.drop_lent.Goals as goal

pub returns-clause-stands : goal.returns-clause-stands
returns-clause-stands g c was old forgoes s left forgotten is =
    let p = c.args.program.now in
    let look = g.F.Facts.map c.args.facts.now in
    let lent = c.exchange_right.ensures in
    let back = c.exchange_right-2.ensures in
    let told = c.in_ok-gone.ensures in
    subst (λ (x : Node). NodeStands p x look s left (either forgotten old))
    (sym (as_turned c.args.self.now.node c.exchange_right.new.self c.forget_turned.new.self c.exchange_right-2.new.self c.args.own.now c.exchange_right.new.shared c.exchange_right-2.new.shared lent.node lent.names lent.pattern told.right back.node back.names back.pattern))
    (told.stands was old
    (subst (λ (x : Node). NodeForgoes x was look old c.deref.result.now) (sym lent.node)
    (subst (λ (names : List Named). NodeForgoes (with_candidates c.args.own.now c.args.self.now.node) was look old names) (sym c.deref.ensures.value) forgoes))
    s left forgotten (subst (λ (x : Node). ForgetsIn p (with_candidates was x) look s left forgotten old c.args.rows.now) (sym lent.node) is))
