-- What the rows of a solved network say of it.
use Rattle.temporal_net.proofs.Common.{◌≡◌, ◌≢◌, ℕ, ◌<◌, ◌≤◌, List, [], ◌∷◌, ◌++◌, map, length, get_or, take, drop, Option, Some, None, Result, Ok, Err, IfOk}
use Rattle.temporal_net.proofs.Common.{sym, ◌∙◌, ap, subst, inl, inr, arith, to_z, of_z, w64, FitsSigned, Contains, ints, get_or_default, length-map}
use Rattle.temporal_net.proofs.Common.{All-from_recursion, recursion_from_All, NetEdge, Distance, total, edge_at, points_of, IsGreatest, IsUnboundedDifference}
use Rattle.temporal_net.proofs.Common.{IsShortestPath, HasGreatest, cell, zero_distance, AreTable, FollowsWay, AllPairs, to_z-of_z, Decides-eqb, IsWay}
use Rattle.temporal_net.proofs.{Common.{IsWithinNetwork, Network}, Bounds.{greatest, unbounded, known}, Fewest.{IsNoMore, least_of_ways}, Ways.{same_distance}}
use Rattle.{temporal_net.proofs.Ways.{follows_leads, follows_members, measured, distinct, short}, std.proofs.lemmas.Grind.{common_steps}}
use Rattle.{std.proofs.lemmas.Map.Made.{AllPairs-from_IsDistinct}, fx_base.specs.declared.bound.Bound.TheVariants.{Finite}}

module _ (edges : List NetEdge) (rows : List (List (Option Distance))) (table : AreTable (length rows) edges rows) (x y : ℕ) (xp : x < length rows) (yp : y < length rows) where
  within_sum : (d : Distance) → cell rows x y ≡ Some d → IsWithinNetwork (Finite d.sum)
  within_sum d is =
      let s = short (length rows) edges (cell rows) table.ways x y d xp yp is in
      let few = s.few in
      let low = s.low in
      let high = s.high in
      (omega (arith, ints), omega (arith, ints))

  fits_sum : (d : Distance) → cell rows x y ≡ Some d → FitsSigned w64 d.sum
  fits_sum d is =
      let within = within_sum d is in
      let low = within.0 in
      let high = within.1 in
      omega (arith, ints)

  pub bound_within : (d : Distance) → cell rows x y ≡ Some d → IsWithinNetwork (Finite (to_z w64 (of_z w64 d.sum)))
  bound_within d is = subst (λ b. IsWithinNetwork (Finite b)) (sym (to_z-of_z w64 d.sum (fits_sum d is))) (within_sum d is)

  pub bound_is : (d : Distance) → cell rows x y ≡ Some d → IsGreatest edges x y (to_z w64 (of_z w64 d.sum))
  bound_is d is = subst (IsGreatest edges x y) (sym (to_z-of_z w64 d.sum (fits_sum d is))) (greatest (length rows) edges (cell rows) table x y d xp yp is)

  pub bound_none : cell rows x y ≡ None → IsUnboundedDifference edges x y
  bound_none none = unbounded (length rows) edges (cell rows) table x y xp yp none

  pub has_distance : HasGreatest edges x y → cell rows x y ≢ None
  has_distance g = known (length rows) edges (cell rows) table x y xp yp g

module _ (edges : List NetEdge) (rows : List (List (Option Distance))) (table : AreTable (length rows) edges rows) (x y : ℕ) (xp : x < length rows) (yp : y < length rows)
    (numbers : List ℕ) (follows : FollowsWay (length rows) edges (cell rows) x y numbers) where
  -- the distance that the numbers are the way of
  distance_of : (ns : List ℕ) → FollowsWay (length rows) edges (cell rows) x y ns → (d : Distance) × (cell rows x y ≡ Some d)
  distance_of [] h = (zero_distance, subst (λ p. cell rows p y ≡ Some zero_distance) (sym h) (table.ways.own y yp))
  distance_of (n ∷ ns) h = (h.0.distance, h.0.here)

  path_way : IsWay edges x y (map (edge_at edges) numbers)
  path_way = record {
    members = All-from_recursion (Contains edges) (map (edge_at edges) numbers) (follows_members (length rows) edges (cell rows) table.ways x y numbers follows);
    leads = follows_leads (length rows) edges (cell rows) table.ways x y numbers follows;
  }

  path_once : AllPairs (λ p q. p ≢ q) (points_of x (map (edge_at edges) numbers))
  path_once = AllPairs-from_IsDistinct Decides-eqb (points_of x (map (edge_at edges) numbers)) (distinct (length rows) edges (cell rows) table.ways x y yp numbers follows)

  path_sum : IsGreatest edges x y (total (map (edge_at edges) numbers))
  path_sum =
      let d = distance_of numbers follows in
      let m = measured (length rows) edges (cell rows) table.ways x y yp numbers follows d.0 d.1 in
      subst (IsGreatest edges x y) m.sum (greatest (length rows) edges (cell rows) table x y d.0 xp yp d.1)

  fewer : (d : Distance) (other : List NetEdge) → IsNoMore d (total other) (length other) → d.sum ≡ total other → d.edges ≤ length other
  fewer d other (inl less) same = absurd (omega (arith, ints))
  fewer d other (inr p) same = p.1

  path_fewest : (other : List NetEdge) → IsWay edges x y other → total other ≡ total (map (edge_at edges) numbers) → length (map (edge_at edges) numbers) ≤ length other
  path_fewest other way same =
      let d = distance_of numbers follows in
      let m = measured (length rows) edges (cell rows) table.ways x y yp numbers follows d.0 d.1 in
      let l = least_of_ways (length rows) edges (cell rows) table x y xp yp other (recursion_from_All (Contains edges) other way.members) way.leads in
      let one : l.distance ≡ d.0 = same_distance (cell rows x y) l.distance d.0 l.is d.1 in
      let sum : d.0.sum ≡ total other = m.sum ∙ sym same in
      let least : IsNoMore d.0 (total other) (length other) = subst (λ (a : Distance). IsNoMore a (total other) (length other)) one l.least in
      let few = fewer d.0 other least sum in
      let count = m.count in
      let long : length (map (edge_at edges) numbers) ≡ length numbers = length-map numbers (edge_at edges) in
      omega arith

  pub shortest : IsShortestPath edges x y (map (edge_at edges) numbers)
  shortest = record { way = path_way; once = path_once; sum = path_sum; fewest = path_fewest }

-- ---- the same, said of the network that callers see

module _ (m : Network) (edges : List NetEdge) (rows : List (List (Option Distance))) (view : ◌≡◌ {A = Network} (record { points = length rows; edges = edges }) m)
    (table : AreTable (length rows) edges rows) (x y : ℕ) (x_in : x < m.points) (y_in : y < m.points) where
  tall : length rows ≡ m.points
  tall = ap (λ (n : Network). n.points) view

  same : edges ≡ m.edges
  same = ap (λ (n : Network). n.edges) view

  xp : x < length rows
  xp = let e = tall in omega arith

  yp : y < length rows
  yp = let e = tall in omega arith

  read : (row : List (Option Distance)) (o : Option Distance) → row ≡ get_or rows x row → get_or row y None ≡ o → cell rows x y ≡ o
  read row o at is = ap (λ r. get_or r y None) (sym (at ∙ get_or_default rows x row [] xp)) ∙ is

  pub bound_read : (row : List (Option Distance)) (d : Distance) → row ≡ get_or rows x row → get_or row y None ≡ Some d → IsGreatest m.edges x y (to_z w64 (of_z w64 d.sum))
  bound_read row d at is = subst (λ es. IsGreatest es x y (to_z w64 (of_z w64 d.sum))) same (bound_is edges rows table x y xp yp d (read row (Some d) at is))

  pub within_read : (row : List (Option Distance)) (d : Distance) → row ≡ get_or rows x row → get_or row y None ≡ Some d → IsWithinNetwork (Finite (to_z w64 (of_z w64 d.sum)))
  within_read row d at is = bound_within edges rows table x y xp yp d (read row (Some d) at is)

  pub none_read : (row : List (Option Distance)) → row ≡ get_or rows x row → get_or row y None ≡ None → IsUnboundedDifference m.edges x y
  none_read row at is = subst (λ es. IsUnboundedDifference es x y) same (bound_none edges rows table x y xp yp (read row None at is))

  pub distance_known : HasGreatest m.edges x y → cell rows x y ≢ None
  distance_known g = has_distance edges rows table x y xp yp (subst (λ es. HasGreatest es x y) (sym same) g)

  module _ (numbers : List ℕ) (follows : FollowsWay (length rows) edges (cell rows) x y numbers) where
    pub path_seen : IsShortestPath m.edges x y (map (edge_at edges) numbers)
    path_seen = subst (λ es. IsShortestPath es x y (map (edge_at edges) numbers)) same (shortest edges rows table x y xp yp numbers follows)

-- what a slice that was lent from a Vec leaves in it
pub written_back : {X : Type 0} (n : ℕ) (new old : List X) → length new ≡ length old → n ≡ length old → take n (new ++ drop (length new) old) ≡ new
written_back n new old same long = grind (arith, common_steps)

-- a way in slices that were lent from a network is a way in it
pub followed : (edges lent : List NetEdge) (rows lent_rows : List (List (Option Distance))) (x y : ℕ) (numbers : List ℕ) → lent ≡ edges → lent_rows ≡ rows
    → FollowsWay (length lent_rows) lent (cell lent_rows) x y numbers → FollowsWay (length rows) edges (cell rows) x y numbers
followed edges lent rows lent_rows x y numbers e r f =
    subst (λ rs. FollowsWay (length rs) edges (cell rs) x y numbers) r (subst (λ es. FollowsWay (length lent_rows) es (cell lent_rows) x y numbers) e f)

-- a clause on a list of items, where they are known
pub on_items : {T E : Type 0} (items : T → List NetEdge) (P : List NetEdge → Type 0) (list : List NetEdge) (r : Result T E) → IfOk r (λ t. items t ≡ list) → P list → IfOk r (λ t. P (items t))
on_items items P list (Ok t) is p = subst P (sym is) p
on_items items P list (Err e) is p = tt
