use Rattle.not_node.proofs.{Common.{◌∙◌, ap, not, ◌&&◌, take, has, rows_more, moment_at, waits_at}, Pairs.{one_kept}}
use Rattle.not_node.proofs.ripening.Ripening.passed_of.Goals as goal

pub loop-row-preserved : goal.loop-row-preserved
loop-row-preserved g c r =
    let rows = c.args.rows.now in
    let i = c.loop-row.row-index in
    let row = c.row-item.result in
    one_kept (λ r. not (waits_at c.args.self.now.waiting.keys ((moment_at c.args.program.now c.args.pattern.now (g.F.Facts.map c.args.facts.now)) r) r)) (has c.loop-row.found.items) (has c.keep.new.found.items) (has (take i rows)) row _ (ap not c.in_ok-waiting.ensures) r (c.loop-row.invariant r) (c.in_ok-keep.ensures r)
    ∙ ap (λ b. b && not (waits_at c.args.self.now.waiting.keys ((moment_at c.args.program.now c.args.pattern.now (g.F.Facts.map c.args.facts.now)) r) r)) (rows_more rows i row c.loop-row-test.true c.row-item.is r)
