use Rattle.counting_node.proofs.Common.{◌∙◌, sym, ap, List, is_some, eq_by_cmp, Row, has, name_cmp, joins, left_at, has_right, AllFollow, AllStay, name_present}
use Rattle.counting_node.proofs.{Common.{seen_after, if_not}, Following.{steps_follow_same}, Parts.{unmoved, part_then, come_all}}
use Rattle.counting_node.proofs.node.TallyNode.name_comes.Goals as goal

pub returns-in-None : goal.returns-in-None
returns-in-None g c =
    let look = g.F.Facts.map c.args.facts.now in
    let m = c.args.self.now.memories in
    let n = c.put_right.new.self in
    let holds = g.T.Tally.holds c.args.plan.now in
    let keeps = c.in_ok-sight.ensures.keeps in
    unmoved g.T.Tally.origin g.T.Tally.gives (g.T.Tally.output c.args.plan.now) (AllFollow holds look (eq_by_cmp name_cmp c.args.who)) m n look _ _ c.args.change.now keeps c.in_ok-sight.ensures.left
    (λ world scope alike inside r.
    steps_follow_same holds world scope (has_right m look) (has_right n look) (joins m.pattern look r)
    (λ x. keeps.names x ∙ sym (name_present (has_right m look) c.args.who (if_not _ _ (sym c.in_ok-sight.ensures.came ∙ ap is_some c.in-None.is)) x)) (left_at m look r) (left_at n look r) (c.in_ok-sight.ensures.left r))

pub returns-in_ok-turn_all-in-Some : goal.returns-in_ok-turn_all-in-Some
returns-in_ok-turn_all-in-Some g c =
    let look = g.F.Facts.map c.args.facts.now in
    let m = c.args.self.now.memories in
    let n = c.put_right.new.self in
    let z = c.turn_all.new.self.memories in
    let keeps = c.in_ok-sight.ensures.keeps in
    let seen = seen_after m.pattern n.pattern look c.args.who c.in_ok-sight.field-0 c.in-Some.sight c.in_ok-sight.ensures.sight c.in-Some.is keeps.pattern in
    part_then _ _ _ m n z look _ _ _ _ _ _ _ _ _
    (unmoved g.T.Tally.origin g.T.Tally.gives (g.T.Tally.output c.args.plan.now) (AllStay look) m n look _ _ c.args.change.now keeps c.in_ok-sight.ensures.left c.in_ok-sight.ensures.left)
    c.in_ok-turn_all-in-Some.ensures.turned keeps.rows keeps.names
    (λ stay turned.
    come_all (g.T.Tally.holds c.args.plan.now) look m n z c.args.who (has c.as_slice.result.now) (λ r. ap (λ (rows : List Row). has rows r) c.as_slice.ensures.value ∙ c.in_ok-rows-in-Some.ensures.rows seen r) stay c.in_ok-turn_all-in-Some.ensures.turned.keeps.names
    keeps (if_not _ _ (sym c.in_ok-sight.ensures.came ∙ ap is_some c.in-Some.is)) turned)
