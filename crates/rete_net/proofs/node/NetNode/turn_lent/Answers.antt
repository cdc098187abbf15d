use Rattle.rete_net.proofs.Common.{◌≡◌, ◌∙◌, sym, subst, List, Bool, Delta, Named, Row, IsDifference, Condition, Snapshot, Look, Candidates, cleaned, line}
use Rattle.rete_net.proofs.{Common.{Node, NodeStands, IsConditionTurn, condition_of}, Lent.{as_turned, condition_there, lent_instead}}
use Rattle.beta_node.specs.Lending.{with_candidates, NodeTakes}
use Rattle.rete_net.proofs.node.NetNode.turn_lent.Goals as goal

pub returns-clause-stands : goal.returns-clause-stands
returns-clause-stands g c was right takes world s next rows rows_now forgotten stands at turn =
    let p = c.args.happening.now.program.now in
    let look = g.F.Facts.map c.args.facts.now in
    let left = c.args.left.now in
    let lent = c.exchange_right.ensures in
    let back = c.exchange_right-2.ensures in
    let told = c.in_ok-delta.ensures in
    let n = c.args.self.now.node in
    let m = c.exchange_right.new.self in
    let o = c.advance_turned.new.self in
    let q = c.exchange_right-2.new.self in
    let there = condition_there n m o q c.args.own.now c.exchange_right.new.shared c.exchange_right-2.new.shared lent.node lent.names lent.pattern told.right back.node back.names back.pattern in
    let instead = lent_instead n m o q c.args.own.now c.exchange_right.new.shared c.exchange_right-2.new.shared lent.node lent.names lent.pattern told.right back.node back.names back.pattern was in
    subst (λ (x : Node). NodeStands p x look next rows_now forgotten)
    (sym (as_turned n m o q c.args.own.now c.exchange_right.new.shared c.exchange_right-2.new.shared lent.node lent.names lent.pattern told.right back.node back.names back.pattern))
    (told.stands was right
    (subst (λ (x : Node). NodeTakes x was look right c.deref.result.now c.deref-2.result.now) (sym lent.node)
    (subst (λ (gone : List Named). NodeTakes (with_candidates c.args.own.now n) was look right gone c.deref-2.result.now) (sym c.deref.ensures.value)
    (subst (λ (come : List Named). NodeTakes (with_candidates c.args.own.now n) was look right c.args.handed.now.gone.items come) (sym c.deref-2.ensures.value) takes)))
    world s next rows rows_now forgotten (subst (λ (x : Node). NodeStands p x look s rows forgotten) (sym instead) stands) at
    (subst (λ (d : Condition). IsConditionTurn p d look world s next rows rows_now forgotten left right) (sym there) turn))

pub returns-clause-difference : goal.returns-clause-difference
returns-clause-difference g c was right takes world s next rows rows_now forgotten stands at turn =
    let p = c.args.happening.now.program.now in
    let look = g.F.Facts.map c.args.facts.now in
    let left = c.args.left.now in
    let lent = c.exchange_right.ensures in
    let back = c.exchange_right-2.ensures in
    let told = c.in_ok-delta.ensures in
    let n = c.args.self.now.node in
    let m = c.exchange_right.new.self in
    let o = c.advance_turned.new.self in
    let q = c.exchange_right-2.new.self in
    let there = condition_there n m o q c.args.own.now c.exchange_right.new.shared c.exchange_right-2.new.shared lent.node lent.names lent.pattern told.right back.node back.names back.pattern in
    let instead = lent_instead n m o q c.args.own.now c.exchange_right.new.shared c.exchange_right-2.new.shared lent.node lent.names lent.pattern told.right back.node back.names back.pattern was in
    subst (λ (d : Condition). IsDifference (cleaned (line p s d rows) forgotten) (cleaned (line p next d rows_now) forgotten) c.in_ok-delta.delta) there
    (told.difference was right
    (subst (λ (x : Node). NodeTakes x was look right c.deref.result.now c.deref-2.result.now) (sym lent.node)
    (subst (λ (gone : List Named). NodeTakes (with_candidates c.args.own.now n) was look right gone c.deref-2.result.now) (sym c.deref.ensures.value)
    (subst (λ (come : List Named). NodeTakes (with_candidates c.args.own.now n) was look right c.args.handed.now.gone.items come) (sym c.deref-2.ensures.value) takes)))
    world s next rows rows_now forgotten (subst (λ (x : Node). NodeStands p x look s rows forgotten) (sym instead) stands) at
    (subst (λ (d : Condition). IsConditionTurn p d look world s next rows rows_now forgotten left right) (sym there) turn))
