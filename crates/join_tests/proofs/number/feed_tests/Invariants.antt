use Rattle.join_tests.proofs.Common.{◌≡◌, drop, map, keys_of_tests, fed_with, part}
use Rattle.join_tests.proofs.number.feed_tests.Given as goal

abbrev pub invariant-loop-test : goal.invariant-loop-test
invariant-loop-test g l =
    fed_with l.state (map (part (g.F.Facts.map l.facts) l.partner) (keys_of_tests (drop l.test-index l.tests)))
    ≡ fed_with l.initial.state (map (part (g.F.Facts.map l.facts) l.partner) (keys_of_tests l.tests))
