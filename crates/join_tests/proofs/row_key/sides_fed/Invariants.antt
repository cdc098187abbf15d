use Rattle.join_tests.proofs.Common.{◌≡◌, drop, map, fed_with, side_part}
use Rattle.std.specs.Hash.FoldHasher as hasher
use Rattle.join_tests.proofs.row_key.sides_fed.Given as goal

abbrev pub invariant-loop-side : goal.invariant-loop-side
invariant-loop-side g l =
    fed_with l.state (map (side_part (g.F.Facts.map l.facts) l.row) (drop l.side-index l.sides))
    ≡ fed_with hasher.initial (map (side_part (g.F.Facts.map l.facts) l.row) l.sides)
