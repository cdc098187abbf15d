use Rattle.temporal_net.proofs.{Common.{◌++◌, length, sym, ◌∙◌, ap, subst, IsNegativeCycle, cell}, Cycles.{round_cycle}}
use Rattle.temporal_net.proofs.net.round_trip.Goals as goal

pub returns : goal.returns
returns c =
    let there = c.in_ok-cycle.cycle.items in
    let home = c.in_ok-way.field-0.items in
    let is = c.from_vec.ensures ∙ c.in_ok-extend_from_slice.ensures.items ∙ ap (λ way. there ++ way) c.deref.ensures.value in
    subst (IsNegativeCycle c.args.edges.now) (sym is)
    (round_cycle (length c.args.rows.now) c.args.edges.now (cell c.args.rows.now) c.requires.ways c.args.point c.args.via c.requires.point c.requires.via c.requires.loses
    there home c.in_ok-cycle.ensures c.in_ok-way.ensures)
