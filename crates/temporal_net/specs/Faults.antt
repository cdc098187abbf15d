-- What a fault says of the network that was to be solved.
use Rattle.std.specs.Prelude.{List}
use Rattle.temporal_net.specs.{declared.{edge.NetEdge.{NetEdge}, net.NetFault.{NetFault, TheVariants.{NegativeCycle, NoMemory}}}, Networks.{IsSolvable}}
use Rattle.temporal_net.specs.Networks.{IsNegativeCycle}

-- a negative cycle stands in the network, which has no solution; want of memory says nothing of it
abbrev pub TellsNetFault : List NetEdge → NetFault → Type 0
TellsNetFault edges (NegativeCycle cycle) = IsNegativeCycle edges cycle × (IsSolvable edges → ⊥)
TellsNetFault edges NoMemory = Unit {0}
