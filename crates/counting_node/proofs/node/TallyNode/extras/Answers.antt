use Rattle.counting_node.proofs.Common.{◌∙◌, sym, ap, subst, ◌++◌, ◌∷◌, [], take, List, take_more, Row, has, InOrder, TellsBeside, is_some, option_map}
use Rattle.{counting_node.proofs.{Beside.{extras_of, left_over}, Following.{take_all}, Searching.{AreListed, listed_more}}, join_memory.specs.Shared.{over}}
use Rattle.counting_node.proofs.node.TallyNode.extras.Goals as goal

pub loop-row-init : goal.loop-row-init
loop-row-init g c = c.new-extras.ensures.items

pub loop-row-preserved : goal.loop-row-preserved
loop-row-preserved g c =
    let look = g.F.Facts.map c.args.facts.now in
    let m = over c.args.self.now.memories (option_map (λ s. s.now) c.args.shared) in
    let rows = c.deref-row-items.result.now in
    let i = c.loop-row.row-index in
    let row = c.row-item.result in
    let beside = TellsBeside (g.T.Tally.holds c.args.plan.now) (g.T.Tally.gathered c.args.plan.now) m look c.args.rule c.args.condition in
    subst (λ (rs : List Row). AreListed beside rs c.add_extra.new.extras.items) (sym (take_more rows i row c.loop-row-test.true ∙ ap (λ (r : Row). take i rows ++ r ∷ []) (sym c.row-item.is)))
    (listed_more beside (take i rows) c.loop-row.extras.items c.add_extra.new.extras.items row c.in_ok-found.found c.loop-row.invariant c.in_ok-found.ensures c.in_ok-add_extra.ensures)

pub returns : goal.returns
returns g c =
    let look = g.F.Facts.map c.args.facts.now in
    let own = c.args.self.now.memories in
    let shared = option_map (λ s. s.now) c.args.shared in
    let m = over own shared in
    let rows = c.deref-row-items.result.now in
    let holds = g.T.Tally.holds c.args.plan.now in
    let gathered = g.T.Tally.gathered c.args.plan.now in
    extras_of holds gathered m look c.args.rule c.args.condition rows c.loop-row.extras.items (subst InOrder (sym c.deref-row-items.ensures.value) c.in_ok-rows.ensures.in_order)
    (λ l agrees row. ap (λ (rs : List Row). has rs row) c.deref-row-items.ensures.value ∙ c.in_ok-rows.ensures.shared shared l agrees row ∙ sym (ap is_some (left_over own shared l row)))
    (subst (λ (rs : List Row). AreListed (TellsBeside holds gathered m look c.args.rule c.args.condition) rs c.loop-row.extras.items) (take_all rows c.loop-row.row-index c.loop-row-test.false) c.loop-row.invariant)
