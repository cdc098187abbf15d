use Rattle.temporal_net.proofs.{Common.{pos, ◌<ℤ◌, sym, ◌∙◌, subst, arith, ints, edge_at, IsNegativeCycle}, Cycles.{self_cycle}, Sums.{no_solution}}
use Rattle.temporal_net.proofs.net.direct_rows.Goals as goal

pub returns-then-edge-lt0-clause-fault : goal.returns-then-edge-lt0-clause-fault
returns-then-edge-lt0-clause-fault c =
    let test = c.if-edge-lt0.true in
    let fits = c.requires.small c.loop-number.number (record { x = 0; y = 0; most = pos 0 }) c.loop-number-test.true in
    let low = fits.0 in
    let high = fits.1 in
    let below : (edge_at c.args.edges.now c.loop-number.number).most <ℤ pos 0 = grind (arith, ints) in
    let is = c.from_vec.ensures ∙ c.in_ok-from_slice.ensures.items in
    let cycle : IsNegativeCycle c.args.edges.now c.from_vec.result = subst (IsNegativeCycle c.args.edges.now) (sym is) (self_cycle c.args.edges.now c.loop-number.number c.loop-number-test.true c.if-edge.true below) in
    (cycle, λ s. no_solution c.args.edges.now c.from_vec.result cycle s.0 s.1)
