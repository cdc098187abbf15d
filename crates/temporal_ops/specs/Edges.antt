-- Upper bounds on the differences of the four points of a tested event and a bound event.
use Rattle.std.specs.{Prelude.{◌≡◌, ℕ, ℤ, pos, ◌+◌, ◌-ℤ◌, ◌≤◌, ◌≤ℤ◌, ◌^◌, neg_ℤ, Bool, true, false, not, List, length}, Int.Signed.{le_z}, List.{All, list_all}}
use Rattle.fx_base.specs.declared.times.Times.{Times}
use Rattle.temporal_ops.specs.declared.edge.{Corner.{Corner, TheVariants.{AStart, AEnd, BStart, BEnd}}, OpEdge.{OpEdge}}

-- a point of the tested event a or of the bound event b
abbrev pub corner : Corner → Times → Times → ℤ
corner AStart a b = a.start
corner AEnd a b = a.end
corner BStart a b = b.start
corner BEnd a b = b.end

-- the difference of the edge's points is at most its bound
unfoldable pub edge_holds : Times → Times → OpEdge → Bool
edge_holds a b edge = le_z (corner edge.x a b -ℤ corner edge.y a b) edge.most

-- each edge holds of the tested event a and the bound event b
unfoldable pub edges_hold : List OpEdge → Times → Times → Bool
edges_hold edges a b = list_all (edge_holds a b) edges

-- whether it is a point of the tested event
abbrev pub is_tested : Corner → Bool
is_tested AStart = true
is_tested AEnd = true
is_tested BStart = false
is_tested BEnd = false

-- the edge joins a point of one event with a point of the other
abbrev pub Joins : OpEdge → Type 0
Joins edge = is_tested edge.x ≡ not (is_tested edge.y)

-- z is at most this number in size
abbrev pub IsWithin : ℕ → ℤ → Type 0
IsWithin size z = (neg_ℤ (pos size) ≤ℤ z) × (z ≤ℤ pos size)

-- an edge of an operator: it joins the two events, and its bound is at most 2^53 + 1 in size
pub record IsOpEdge (edge : OpEdge) : Type 0 where
  pub joins : Joins edge
  pub sized : IsWithin (2 ^ 53 + 1) edge.most

-- the edges of an operator
pub record IsOp (edges : List OpEdge) : Type 0 where
  pub few : length edges ≤ 5
  pub each : All IsOpEdge edges
