use Rattle.{std.proofs.Common.{◌≡◌, length}, range_index.specs.{Nodes.{leaves, AreBlocks}, Ranges.{places_with}}}
use Rattle.range_index.proofs.hits.Hits.next.Given as goal

abbrev pub invariant-loop-self : goal.invariant-loop-self
invariant-loop-self l = record {
  places : places_with l.self-inside.number (leaves l.self-inside.rest.now) ≡ places_with l.initial.self-inside.number (leaves l.initial.self-inside.rest.now);
  blocks : AreBlocks l.self-inside.rest.now;
}

abbrev pub decreases-loop-self : goal.decreases-loop-self
decreases-loop-self l = length l.self-inside.rest.now
