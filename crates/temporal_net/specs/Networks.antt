-- Networks of difference constraints, their solutions, the greatest differences, and ways along the edges.
use Rattle.std.specs.{Prelude.{◌≡◌, ◌≢◌, ℕ, ◌<◌, ◌≤◌, ℤ, pos, negsuc, ◌+ℤ◌, ◌-ℤ◌, ◌*ℤ◌, ◌≤ℤ◌, ◌<ℤ◌, List, [], ◌∷◌, map, length, slice_index_or}, List.{All}}
use Rattle.std.specs.List.{AllPairs, Contains}
use Rattle.fx_base.specs.declared.bound.Bound.{Bound, TheVariants.{Finite, Infinite}}
use Rattle.temporal_net.specs.declared.edge.NetEdge.{NetEdge}

-- the points 0, 1 .. below `points`, and the edges among them
pub record Network : Type 0 where
  pub points : ℕ
  pub edges : List NetEdge

-- ---- solutions: a whole number for each point

-- the edge holds of these numbers
abbrev pub MeetsEdge : (ℕ → ℤ) → NetEdge → Type 0
MeetsEdge v e = (v e.x -ℤ v e.y) ≤ℤ e.most

-- every edge holds
abbrev pub SolvesEdges : List NetEdge → (ℕ → ℤ) → Type 0
SolvesEdges edges v = All (MeetsEdge v) edges

abbrev pub IsSolvable : List NetEdge → Type 0
IsSolvable edges = (v : ℕ → ℤ) × SolvesEdges edges v

-- b is the greatest difference of x and y: no solution has a greater one, and some solution has it
pub record IsGreatest (edges : List NetEdge) (x y : ℕ) (b : ℤ) : Type 0 where
  pub bounds : (v : ℕ → ℤ) → SolvesEdges edges v → (v x -ℤ v y) ≤ℤ b
  pub attained : (v : ℕ → ℤ) × SolvesEdges edges v × ((v x -ℤ v y) ≡ b)

abbrev pub HasGreatest : List NetEdge → ℕ → ℕ → Type 0
HasGreatest edges x y = (b : ℤ) × IsGreatest edges x y b

-- there are solutions, and the difference of x and y passes each number in one of them
pub record IsUnboundedDifference (edges : List NetEdge) (x y : ℕ) : Type 0 where
  pub solvable : IsSolvable edges
  pub passes : (b : ℤ) → (v : ℕ → ℤ) × SolvesEdges edges v × (b <ℤ (v x -ℤ v y))

-- what a bound says of x and y
abbrev pub IsBound : List NetEdge → ℕ → ℕ → Bound → Type 0
IsBound edges x y (Finite b) = IsGreatest edges x y b
IsBound edges x y Infinite = IsUnboundedDifference edges x y

-- where it is finite, the bound is at most 15 * (2^53 + 1) in size: the sum of a way of at most 15 small edges
abbrev pub IsWithinNetwork : Bound → Type 0
IsWithinNetwork (Finite b) = ((negsuc 9007199254740992 *ℤ pos 15) ≤ℤ b) × (b ≤ℤ (pos 9007199254740993 *ℤ pos 15))
IsWithinNetwork Infinite = Unit {0}

-- ---- ways along edges

-- the edges lead from x to y, each from the end of the one before
abbrev pub LeadsWay : ℕ → List NetEdge → ℕ → Type 0
LeadsWay x [] y = x ≡ y
LeadsWay x (e ∷ way) y = (e.x ≡ x) × LeadsWay e.y way y

-- the sum of what the edges allow
abbrev pub total : List NetEdge → ℤ
total [] = pos 0
total (e ∷ way) = e.most +ℤ total way

-- a way from x to y in the network
pub record IsWay (edges : List NetEdge) (x y : ℕ) (way : List NetEdge) : Type 0 where
  pub members : All (Contains edges) way
  pub leads : LeadsWay x way y

-- the points of a way that begins at x
abbrev pub points_of : ℕ → List NetEdge → List ℕ
points_of x way = x ∷ map (λ e. e.y) way

-- a way from x to y that meets no point twice, whose sum is the greatest difference, and of the fewest edges among
-- the ways with this sum
pub record IsShortestPath (edges : List NetEdge) (x y : ℕ) (path : List NetEdge) : Type 0 where
  pub way : IsWay edges x y path
  pub once : AllPairs (λ p q. p ≢ q) (points_of x path)
  pub sum : IsGreatest edges x y (total path)
  pub fewest : (other : List NetEdge) → IsWay edges x y other → total other ≡ total path → length path ≤ length other

-- ---- cycles, as lists of edge numbers

-- the edge with this number, where there is one
abbrev pub edge_at : List NetEdge → ℕ → NetEdge
edge_at edges number = slice_index_or edges number (record { x = 0; y = 0; most = pos 0 })

-- the edges with these numbers lead round to where they begin, and their sum is below 0
pub record IsNegativeCycle (edges : List NetEdge) (cycle : List ℕ) : Type 0 where
  pub numbers : All (λ number. number < length edges) cycle
  pub some : cycle ≢ []
  pub closes : (x : ℕ) × LeadsWay x (map (edge_at edges) cycle) x
  pub negative : total (map (edge_at edges) cycle) <ℤ pos 0

-- ---- what a caller of `solve` gives

-- both ends are points of the network
abbrev pub HasItsPoints : ℕ → NetEdge → Type 0
HasItsPoints points e = (e.x < points) × (e.y < points)

-- at most 2^53 + 1 in size
abbrev pub IsSmallEdge : NetEdge → Type 0
IsSmallEdge e = (negsuc 9007199254740992 ≤ℤ e.most) × (e.most ≤ℤ pos 9007199254740993)
