use Rattle.not_node.proofs.{Common.{to_z, of_z, ◌∙◌, ap, ◌&&◌, take, w128, has, rows_more, moment_at, mature}, Pairs.{one_kept}}
use Rattle.not_node.proofs.ripening.ripe_of.Goals as goal

pub loop-row-preserved : goal.loop-row-preserved
loop-row-preserved g c r =
    let rows = c.args.rows.now in
    let i = c.loop-row.row-index in
    let row = c.row-item.result in
    one_kept (λ r. mature (to_z w128 (of_z w128 c.args.floor)) ((moment_at c.args.program.now c.args.pattern.now (g.F.Facts.map c.args.facts.now)) r)) (has c.loop-row.found.items) (has c.keep.new.found.items) (has (take i rows)) row _ (c.is_mature.ensures ∙ ap (mature (to_z w128 (of_z w128 c.args.floor))) c.in_ok-at.ensures) r (c.loop-row.invariant r) (c.in_ok-keep.ensures r)
    ∙ ap (λ b. b && mature (to_z w128 (of_z w128 c.args.floor)) ((moment_at c.args.program.now c.args.pattern.now (g.F.Facts.map c.args.facts.now)) r)) (rows_more rows i row c.loop-row-test.true c.row-item.is r)
