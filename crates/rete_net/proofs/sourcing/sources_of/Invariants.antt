use Rattle.rete_net.specs.Sourcing.{AreSourcesBelow}
use Rattle.rete_net.proofs.sourcing.sources_of.Given as goal

abbrev pub invariant-loop-place : goal.invariant-loop-place
invariant-loop-place l = AreSourcesBelow l.nodes l.fans.seats.items l.sources l.place
