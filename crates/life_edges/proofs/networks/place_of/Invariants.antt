use Rattle.life_edges.{proofs.Common.{◌≡◌, ◌<◌, ◌+◌, drop, bindings}, specs.Edges.{place_of as place_in}}
use Rattle.life_edges.proofs.networks.place_of.Given as goal

abbrev pub invariant-loop-place : goal.invariant-loop-place
invariant-loop-place l = record {
  named : l.left < bindings (drop l.place l.conditions);
  is : place_in l.conditions l.number ≡ l.place + place_in (drop l.place l.conditions) l.left;
}
