use Rattle.counting_node.proofs.Common.{◌∙◌, ap, subst, ◌+◌, ◌||◌, take, Bor, eq_by_cmp, option_map, Extra, has, row_cmp, InOrder, same_equiv, has_left}
use Rattle.counting_node.proofs.{Common.{has_right, row_decides, more_more, extra_for, rows_of_extras, PartStep, AllLoaded, shown}, Following.{rows_more}}
use Rattle.counting_node.proofs.{Following.{take_all}, Loading.{load_then}, Parts.{part_then}}
use Rattle.counting_node.proofs.node.TallyNode.rows_load.Goals as goal

pub loop-row-preserved : goal.loop-row-preserved
loop-row-preserved g c =
    let look = g.F.Facts.map c.args.facts.now in
    let m = c.args.self.now.memories in
    let n = c.loop-row.self.memories in
    let z = c.row_loads.new.self.memories in
    let rows = c.args.rows.now in
    let i = c.loop-row.row-index in
    let row = c.row-item.result in
    record {
      turned = part_then _ _ _ m n z look _ _ _ _ _ _ _ _ _ c.loop-row.invariant.turned c.in_ok-row_loads.ensures.turned
          (λ r. more_more (eq_by_cmp row_cmp) same_equiv.symm rows i c.loop-row-test.true row row c.row-item.is r (has_left m look r) (has_left n look r) (c.loop-row.invariant.turned.keeps.rows r))
          c.loop-row.invariant.turned.keeps.names
          (λ p q sorted.
          load_then (g.T.Tally.holds c.args.plan.now) (g.T.Tally.laden c.args.plan.now) look m n z (extra_for c.args.extras.now) _ c.loop-row.invariant.turned.keeps (has (take i rows)) (eq_by_cmp row_cmp row) (has (take (i + 1) rows)) (rows_more rows i row c.loop-row-test.true c.row-item.is)
          (option_map (λ (e : Bor Extra). e.now) c.extra_of-extra.result) (λ r e. c.extra_of-extra.ensures sorted ∙ ap (extra_for c.args.extras.now) ((row_decides row r).0 e)) (p sorted) q);
      right = c.in_ok-row_loads.ensures.right ∙ c.loop-row.invariant.right;
    }

pub returns-clause-turned : goal.returns-clause-turned
returns-clause-turned g c =
    let look = g.F.Facts.map c.args.facts.now in
    let first = c.args.self.now.memories in
    subst (λ rows. PartStep (shown g.T.Tally.origin g.T.Tally.gives (g.T.Tally.output c.args.plan.now)) (λ m n. InOrder (rows_of_extras c.args.extras.now) → AllLoaded (g.T.Tally.holds c.args.plan.now) (g.T.Tally.laden c.args.plan.now) look (extra_for c.args.extras.now) (has rows) m n) first c.loop-row.self.memories look
    (λ r. has_left first look r || has rows r) (has_right first look) c.args.change.now c.loop-row.change)
    (take_all c.args.rows.now c.loop-row.row-index c.loop-row-test.false) c.loop-row.invariant.turned
