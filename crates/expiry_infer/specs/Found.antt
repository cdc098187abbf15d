-- What is found of a network.
use Rattle.std.specs.Prelude.{◌≡◌, Option, Some, None, List}
use Rattle.fx_base.specs.declared.{bound.Bound.{Bound}, times.Times.{Times}}
use Rattle.temporal_net.specs.{declared.edge.NetEdge.{NetEdge}, Networks.{Network, IsSolvable}}
use Rattle.rule_model.specs.declared.{condition.Condition.{Condition}, program.Program.{Program}}
use Rattle.life_meaning.specs.{Networks.{Occurrence}, Reach.{Placed, SolvesWith, IsReach}}
use Rattle.life_edges.specs.Tails.{limit_of}

-- the network of 16 points with these edges, which has a solution, or nothing where it has none
abbrev pub IsSolved : List NetEdge → Option Network → Type 0
IsSolved edges (Some network) = (network ≡ record { points = 16; edges = edges }) × IsSolvable edges
IsSolved edges None = IsSolvable edges → ⊥

-- the reach of j behind i, or nothing where their network has no solution
abbrev pub IsReachFound : Program → List Condition → Placed → Placed → Option Bound → Type 0
IsReachFound p conditions i j (Some bound) = IsReach p conditions i j (limit_of bound)
IsReachFound p conditions i j None = (times : Occurrence → Times) → SolvesWith p conditions i j times → ⊥
