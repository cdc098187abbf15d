-- Tables of least distances between points, by the points that ways may go through.
use Rattle.std.specs.Prelude.{◌≡◌, ◌≢◌, ℕ, ◌+◌, ◌<◌, ◌≤◌, ◌⊎◌, ℤ, pos, negsuc, ◌+ℤ◌, ◌*ℤ◌, ◌≤ℤ◌, List, [], ◌∷◌, length, Bool, false, ◌&&◌, eqb, cond, get_or}
use Rattle.std.specs.{Prelude.{Option, Some, None}, List.{All, Contains}, Int.Signed.{lt_z}, Ordering.{int_eq}}
use Rattle.temporal_net.specs.{declared.{edge.NetEdge.{NetEdge}, distance.Distance.{Distance}}, Networks.{HasItsPoints, IsSmallEdge, edge_at}}

abbrev pub Table : Type 0
Table = ℕ → ℕ → Option Distance

-- the distance from x to y in a list of rows
abbrev pub cell : List (List (Option Distance)) → Table
cell rows x y = get_or (get_or rows x []) y None

-- one number that orders distances with fewer than 32 edges by sum and then by edges
abbrev pub cost : Distance → ℤ
cost d = (pos 32 *ℤ d.sum) +ℤ pos d.edges

abbrev pub edge_cost : NetEdge → ℤ
edge_cost e = (pos 32 *ℤ e.most) +ℤ pos 1

-- one edge
abbrev pub edge_distance : NetEdge → Distance
edge_distance e = record { sum = e.most; edges = 1 }

-- no edge at all
abbrev pub zero_distance : Distance
zero_distance = record { sum = pos 0; edges = 0 }

-- one way after another
abbrev pub joined : Distance → Distance → Distance
joined a b = record { sum = a.sum +ℤ b.sum; edges = a.edges + b.edges }

-- what is known, or what was found where that is less
abbrev pub lesser : Option Distance → Distance → Distance
lesser None found = found
lesser (Some known) found = cond (lt_z (cost found) (cost known)) found known

-- what is known, or the way over a third point where that is less
abbrev pub lowered : Option Distance → Option Distance → Option Distance → Option Distance
lowered known (Some first) (Some second) = Some (lesser known (joined first second))
lowered known (Some first) None = known
lowered known None second = known

-- at most 15 edges, and a sum that as many edges can have
pub record IsShortDistance (d : Distance) : Type 0 where
  pub few : d.edges ≤ 15
  pub low : (negsuc 9007199254740992 *ℤ pos d.edges) ≤ℤ d.sum
  pub high : d.sum ≤ℤ (pos 9007199254740993 *ℤ pos d.edges)

-- each known distance between two points is short
abbrev pub AllShort : List (List (Option Distance)) → Type 0
AllShort rows = (x y : ℕ) → x < length rows → y < length rows → (d : Distance) → cell rows x y ≡ Some d → IsShortDistance d

-- some distance is known, and it costs at most c
abbrev pub ReachesWithin : Option Distance → ℤ → Type 0
ReachesWithin None c = ⊥
ReachesWithin (Some d) c = cost d ≤ℤ c

-- e begins a way from x to y of distance d that goes through points below k alone, and the table has the rest of it
pub record Begins (k : ℕ) (edges : List NetEdge) (t : Table) (x y : ℕ) (d : Distance) (e : NetEdge) : Type 0 where
  pub member : Contains edges e
  pub from : e.x ≡ x
  pub inner : (e.y ≡ y) ⊎ (e.y < k)
  pub rest : Distance
  pub onward : t e.y y ≡ Some rest
  pub sum : d.sum ≡ (e.most +ℤ rest.sum)
  pub count : d.edges ≡ 1 + rest.edges

-- each point is at no distance from itself, and each other distance is that of a way
pub record HasWays (points k : ℕ) (edges : List NetEdge) (t : Table) : Type 0 where
  pub few : points ≤ 16
  pub among : All (HasItsPoints points) edges
  pub small : All IsSmallEdge edges
  pub own : (p : ℕ) → p < points → t p p ≡ Some zero_distance
  pub begins : (x y : ℕ) → x < points → y < points → x ≢ y → (d : Distance) → t x y ≡ Some d → (e : NetEdge) × Begins k edges t x y d e

-- the table has the least distances over ways that go through points below k alone
pub record IsDistanceTable (points k : ℕ) (edges : List NetEdge) (t : Table) : Type 0 where
  pub ways : HasWays points k edges t
  pub direct : (e : NetEdge) → Contains edges e → ReachesWithin (t e.x e.y) (edge_cost e)
  pub triangle : (i x y : ℕ) → i < k → x < points → y < points → (a b : ℤ) → ReachesWithin (t x i) a → ReachesWithin (t i y) b → ReachesWithin (t x y) (a +ℤ b)

-- rows, one for each point, that are a table
abbrev pub AreTable : ℕ → List NetEdge → List (List (Option Distance)) → Type 0
AreTable k edges rows = IsDistanceTable (length rows) k edges (cell rows)

-- the same, where only the ways are asked for
abbrev pub HaveWays : List NetEdge → List (List (Option Distance)) → Type 0
HaveWays edges rows = HasWays (length rows) (length rows) edges (cell rows)

-- both ways are known, and the sum there and back is below 0
abbrev pub loses : Option Distance → Option Distance → Bool
loses (Some out) (Some back) = lt_z (out.sum +ℤ back.sum) (pos 0)
loses (Some out) None = false
loses None back = false

-- whether the way from x to the point `via` and back loses
abbrev pub loses_over : List (List (Option Distance)) → ℕ → ℕ → Bool
loses_over rows via x = loses (cell rows x via) (cell rows via x)

-- ---- the way that a table has

-- an edge that allows `most` leaves the second distance of the first
abbrev pub opens : Option Distance → Option Distance → ℤ → Bool
opens (Some whole) (Some rest) most = int_eq whole.sum (most +ℤ rest.sum) && eqb whole.edges (rest.edges + 1)
opens (Some whole) None most = false
opens None rest most = false

-- the edge with this number begins the way from x to y
pub record StepsWay (points : ℕ) (edges : List NetEdge) (t : Table) (x y number : ℕ) : Type 0 where
  pub known : number < length edges
  pub distance : Distance
  pub here : t x y ≡ Some distance
  pub begins : Begins points edges t x y distance (edge_at edges number)

-- the edges with these numbers are a way from x to y whose distances the table has
abbrev pub FollowsWay : ℕ → List NetEdge → Table → ℕ → ℕ → List ℕ → Type 0
FollowsWay points edges t x y [] = x ≡ y
FollowsWay points edges t x y (number ∷ numbers) = StepsWay points edges t x y number × FollowsWay points edges t (edge_at edges number).y y numbers
