-- What a solver makes of what is asked.
use Rattle.std.specs.Prelude.{◌≡◌, ℕ, Bool, true, false, List, map}
use Rattle.temporal_net.specs.{declared.edge.NetEdge.{NetEdge}, Networks.{edge_at, IsNegativeCycle, IsShortestPath}}
use Rattle.rule_model.specs.declared.{condition.Condition.{Condition}, program.Program.{Program}}
use Rattle.life_edges.specs.Edges.{start_point_of, end_of}
use Rattle.life_proof.specs.{declared.part.{Asked.{Asked}, Part.{Part}}, Good.{edges_for}}

-- the edges of a shortest path, or those of a negative cycle by their numbers
abbrev pub AreSolved : Bool → List NetEdge → ℕ → ℕ → List NetEdge → Type 0
AreSolved false network x y edges = IsShortestPath network x y edges
AreSolved true network x y edges = (numbers : List ℕ) × IsNegativeCycle network numbers × (edges ≡ map (edge_at network) numbers)

pub record IsSolvedPart (p : Program) (conditions : List Condition) (a : Asked) (part : Part) : Type 0 where
  pub rule : part.rule.0 ≡ a.rule
  pub from : part.from ≡ a.from
  pub to : part.to ≡ a.to
  pub edges : AreSolved part.cycle (edges_for p conditions a.from a.to) (start_point_of a.to) (end_of a.from) part.edges
