use Rattle.life_edges.proofs.Common.{◌≡◌, ◌++◌, drop, edges_of_conditions}
use Rattle.life_edges.proofs.networks.network.Given as goal

abbrev pub invariant-loop-place : goal.invariant-loop-place
invariant-loop-place l = l.edges.items ++ edges_of_conditions l.program l.conditions l.places l.place (drop l.place l.conditions) ≡ edges_of_conditions l.program l.conditions l.places 0 l.conditions
