use Rattle.life_edges.proofs.Common.{◌≡◌, ◌++◌, drop, flat_map, test_edges, pattern_edges}
use Rattle.life_edges.proofs.networks.add_pattern.Given as goal

abbrev pub invariant-loop-test : goal.invariant-loop-test
invariant-loop-test l = l.edges.items ++ flat_map (test_edges l.conditions l.place) (drop l.test-index l.pattern.times) ≡ l.fn.edges.items ++ pattern_edges l.program l.conditions l.place l.pattern
