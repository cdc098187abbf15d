use Rattle.temporal_net.proofs.{Common.{length, pos, arith, edge_at, cell}, Ways.{known_short}, Firsts.{some_first}}
use Rattle.temporal_net.proofs.table.first_edge.Goals as goal

pub unreachable-requires : goal.unreachable-requires
unreachable-requires c =
    some_first (length c.args.rows.now) c.args.edges.now (cell c.args.rows.now) c.requires.ways c.args.from c.args.to c.requires.from c.requires.to c.requires.apart c.requires.known
    (λ n np. c.loop-number.invariant n (omega arith))

pub leaves_rest-requires-clause-rest : goal.leaves_rest-requires-clause-rest
leaves_rest-requires-clause-rest c =
    let e = edge_at c.args.edges.now c.loop-number.number in
    let inside = c.requires.ways.among c.loop-number.number (record { x = 0; y = 0; most = pos 0 }) c.loop-number-test.true in
    known_short (length c.args.rows.now) c.args.edges.now (cell c.args.rows.now) c.requires.ways e.y c.args.to inside.1 c.requires.to
