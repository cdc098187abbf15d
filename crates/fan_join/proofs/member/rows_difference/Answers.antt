use Rattle.fan_join.proofs.{Common.{◌∙◌, ap, List, Row, has, joins, joined, has_candidate}, Halves.{rows_turned}}
use Rattle.fan_join.proofs.member.rows_difference.Goals as goal

pub returns : goal.returns
returns g c =
    let look = g.F.Facts.map c.args.facts.now in
    let m = c.args.member.now in
    rows_turned c.args.turn.now look m c.in_ok-rows_gone.rows_gone.items c.in_ok-rows_come.rows_come.items c.none-change.result c.leave.new.self c.arrive.new.self c.in_ok-delta.delta
    (λ r. c.in_ok-rows_gone.ensures r ∙ ap (λ (rows : List Row). joined (joins m.pattern look) (has rows) (has_candidate m look) r) c.as_slice.ensures.value)
    (λ r. c.in_ok-rows_come.ensures r ∙ ap (λ (rows : List Row). joined (joins m.pattern look) (has rows) (has_candidate m look) r) c.as_slice-2.ensures.value)
    c.none-change.ensures c.in_ok-leave.ensures c.in_ok-arrive.ensures c.in_ok-delta.ensures
