-- Solutions of edges and of networks, each made of the other, and the distances in them.
use Rattle.life_edges.proofs.Common.{◌≡◌, ℕ, ℤ, ◌-ℤ◌, ◌≤ℤ◌, ◌<ℤ◌, List, [], ◌∷◌, Some, sym, ◌∙◌, ap, subst, arith, slice_get, ints, Times, Condition, Program}
use Rattle.life_edges.proofs.Common.{Occurrence, SolvesConditions, infinite, Placed, NameEarlier, start_point_of, end_of, edges_of_conditions, IsReach}
use Rattle.{life_edges.proofs.Common.{IsGreatestReach, distance, occurrence_of, limit_of}, fx_base.specs.declared.bound.Bound.{Bound, TheVariants.{Finite}}}
use Rattle.fx_base.specs.declared.bound.Bound.TheVariants.{Infinite}
use Rattle.temporal_net.specs.Networks as net
use Rattle.life_edges.proofs.{Solutions.{Agree}, Solved.{points_solve, times_solve, times_of, times_agree, points_of, points_agree}}

-- the times that a solution of the edges gives
pub of_points : (p : Program) (conditions : List Condition) (places : List ℕ) → NameEarlier conditions → (v : ℕ → ℤ) → net.SolvesEdges (edges_of_conditions p conditions places 0 conditions) v
    → SolvesConditions p conditions places (times_of conditions v)
of_points p conditions places named v h = times_solve p conditions places v (times_of conditions v) named (times_agree conditions v) h

-- the numbers that times which solve the network give
pub of_times : (p : Program) (conditions : List Condition) (places : List ℕ) → NameEarlier conditions → (times : Occurrence → Times)
    → SolvesConditions p conditions places times → net.SolvesEdges (edges_of_conditions p conditions places 0 conditions) (points_of conditions times)
of_times p conditions places named times h = points_solve p conditions places (points_of conditions times) times named (points_agree conditions times) h

pub same_distance : (conditions : List Condition) (i j : Placed) (v : ℕ → ℤ) (times : Occurrence → Times) → Agree conditions v times
    → slice_get conditions i.place ≡ Some i.condition → slice_get conditions j.place ≡ Some j.condition
    → distance conditions i j times ≡ (v (start_point_of j.place) -ℤ v (end_of i.place))
same_distance conditions i j v times agree at_i at_j =
    ap (λ (y : Times). y.start -ℤ (times (occurrence_of conditions i)).end) (agree j.place j.condition at_j)
    ∙ ap (λ (y : Times). v (start_point_of j.place) -ℤ y.end) (agree i.place i.condition at_i)

-- ---- reaches

greatest : (p : Program) (conditions : List Condition) (i j : Placed) → NameEarlier conditions
    → slice_get conditions i.place ≡ Some i.condition → slice_get conditions j.place ≡ Some j.condition → (most : ℤ)
    → net.IsGreatest (edges_of_conditions p conditions (i.place ∷ j.place ∷ []) 0 conditions) (start_point_of j.place) (end_of i.place) most → IsGreatestReach p conditions i j most
greatest p conditions i j named at_i at_j most h =
    let places = i.place ∷ j.place ∷ [] in
    let v = h.attained.0 in record {
      bounds = λ times s. subst (λ (z : ℤ). z ≤ℤ most) (sym (same_distance conditions i j (points_of conditions times) times (points_agree conditions times) at_i at_j))
          (h.bounds (points_of conditions times) (of_times p conditions places named times s));
      times = times_of conditions v;
      solves = of_points p conditions places named v h.attained.1;
      attained = same_distance conditions i j v (times_of conditions v) (times_agree conditions v) at_i at_j ∙ h.attained.2;
    }

passed : (a b c : ℤ) → c ≡ a → a ≤ℤ b → b <ℤ c → ⊥
passed a b c e h k = omega (arith, ints)

unbounded : (p : Program) (conditions : List Condition) (i j : Placed) → NameEarlier conditions
    → slice_get conditions i.place ≡ Some i.condition → slice_get conditions j.place ≡ Some j.condition
    → net.IsUnboundedDifference (edges_of_conditions p conditions (i.place ∷ j.place ∷ []) 0 conditions) (start_point_of j.place) (end_of i.place) → IsReach p conditions i j infinite
unbounded p conditions i j named at_i at_j h =
    let places = i.place ∷ j.place ∷ [] in (
      (times_of conditions h.solvable.0, of_points p conditions places named h.solvable.0 h.solvable.1),
      λ most g.
          let further = h.passes most in
          let v = further.0 in
          passed (distance conditions i j (times_of conditions v)) most (v (start_point_of j.place) -ℤ v (end_of i.place))
          (sym (same_distance conditions i j v (times_of conditions v) (times_agree conditions v) at_i at_j))
          (g.bounds (times_of conditions v) (of_points p conditions places named v further.1)) further.2,
    )

pub reached : (p : Program) (conditions : List Condition) (i j : Placed) (bound : Bound) → NameEarlier conditions
    → slice_get conditions i.place ≡ Some i.condition → slice_get conditions j.place ≡ Some j.condition
    → net.IsBound (edges_of_conditions p conditions (i.place ∷ j.place ∷ []) 0 conditions) (start_point_of j.place) (end_of i.place) bound → IsReach p conditions i j (limit_of bound)
reached p conditions i j (Finite most) named at_i at_j h = greatest p conditions i j named at_i at_j most h
reached p conditions i j Infinite named at_i at_j h = unbounded p conditions i j named at_i at_j h
