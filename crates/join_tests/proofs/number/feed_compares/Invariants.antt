use Rattle.join_tests.proofs.Common.{◌≡◌, drop, map, keys_of_compares, fed_with, part}
use Rattle.join_tests.proofs.number.feed_compares.Given as goal

abbrev pub invariant-loop-compare : goal.invariant-loop-compare
invariant-loop-compare g l =
    fed_with l.state (map (part (g.F.Facts.map l.facts) l.partner) (keys_of_compares (drop l.compare-index l.compares)))
    ≡ fed_with l.initial.state (map (part (g.F.Facts.map l.facts) l.partner) (keys_of_compares l.compares))
