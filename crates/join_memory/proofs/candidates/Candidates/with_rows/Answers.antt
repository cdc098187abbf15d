use Rattle.join_memory.proofs.{Common.{◌∙◌, sym, ap, List, refl, Row, has, joins, has_candidate}, Joining.{none_left}, Sharing.{rows_made_too}}
use Rattle.join_memory.proofs.candidates.Candidates.with_rows.Goals as goal

pub loop-row-init : goal.loop-row-init
loop-row-init g c r =
    let look = g.F.Facts.map c.args.facts.now in
    ap (λ (rows : List Row). has rows r) c.new-found.ensures.items
    ∙ sym (none_left (joins c.args.self.now.pattern look) _ (has_candidate c.args.self.now look) (λ l. refl) r)

pub loop-row-preserved : goal.loop-row-preserved
loop-row-preserved g c r =
    let look = g.F.Facts.map c.args.facts.now in
    rows_made_too (joins c.args.self.now.pattern look) c.loop-row.found.items c.in_ok-more.more.items c.append.new.self.items c.in_ok-append.ensures.items r
    c.args.rows.now c.loop-row.row-index c.loop-row-test.true c.row-item.result c.row-item.result c.row-item.is (has_candidate c.args.self.now look)
    (c.loop-row.invariant r) (c.in_ok-more.ensures r)
