use Rattle.rete_net.proofs.Common.{sym, subst, IsDifference, Condition, Node, NodeStands, IsLoad, Laden, node_rows, no_names, no_rows, empty_snapshot}
use Rattle.{rete_net.proofs.{Common.{extra_for}, Lent.{as_turned, condition_there, lent_instead}}, beta_node.specs.Lending.{with_candidates, NodeHas}}
use Rattle.rete_net.proofs.node.NetNode.fill_lent.Goals as goal

pub returns-clause-laden : goal.returns-clause-laden
returns-clause-laden g c was right has world s before stands at load =
    let p = c.args.program.now in
    let look = g.F.Facts.map c.args.facts.now in
    let lent = c.exchange_right.ensures in
    let back = c.exchange_right-2.ensures in
    let told = c.in_ok-delta.ensures in
    let n = c.args.self.now.node in
    let m = c.exchange_right.new.self in
    let o = c.load_turned.new.self in
    let q = c.exchange_right-2.new.self in
    let there = condition_there n m o q c.args.own.now c.exchange_right.new.shared c.exchange_right-2.new.shared lent.node lent.names lent.pattern told.right back.node back.names back.pattern in
    let instead = lent_instead n m o q c.args.own.now c.exchange_right.new.shared c.exchange_right-2.new.shared lent.node lent.names lent.pattern told.right back.node back.names back.pattern was in
    subst (λ (x : Node). Laden p x look world s before (extra_for c.args.given.now.extras.now))
    (sym (as_turned n m o q c.args.own.now c.exchange_right.new.shared c.exchange_right-2.new.shared lent.node lent.names lent.pattern told.right back.node back.names back.pattern))
    (told.laden was right (subst (λ (x : Node). NodeHas x look right) (sym lent.node) has) world s before
    (subst (λ (x : Node). NodeStands p x look empty_snapshot no_rows no_names) (sym instead) stands) at
    (subst (λ (d : Condition). IsLoad p d look world s before c.args.given.now.rows.now right c.args.given.now.extras.now) (sym there) load))

pub returns-clause-difference : goal.returns-clause-difference
returns-clause-difference g c was right has stands =
    let p = c.args.program.now in
    let look = g.F.Facts.map c.args.facts.now in
    let lent = c.exchange_right.ensures in
    let back = c.exchange_right-2.ensures in
    let told = c.in_ok-delta.ensures in
    let n = c.args.self.now.node in
    let m = c.exchange_right.new.self in
    let o = c.load_turned.new.self in
    let q = c.exchange_right-2.new.self in
    let instead = lent_instead n m o q c.args.own.now c.exchange_right.new.shared c.exchange_right-2.new.shared lent.node lent.names lent.pattern told.right back.node back.names back.pattern was in
    subst (λ (x : Node). IsDifference (node_rows p look (with_candidates was n)) (node_rows p look x) c.in_ok-delta.delta)
    (sym (as_turned n m o q c.args.own.now c.exchange_right.new.shared c.exchange_right-2.new.shared lent.node lent.names lent.pattern told.right back.node back.names back.pattern))
    (subst (λ (x : Node). IsDifference (node_rows p look x) (node_rows p look o) c.in_ok-delta.delta) instead
    (told.difference was right (subst (λ (x : Node). NodeHas x look right) (sym lent.node) has) (subst (λ (x : Node). NodeStands p x look empty_snapshot no_rows no_names) (sym instead) stands)))
