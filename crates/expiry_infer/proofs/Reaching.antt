-- What a solved network says of its conditions.
use Rattle.expiry_infer.proofs.Common.{◌≡◌, ◌≤◌, ℕ, Bool, List, [], length, Option, Some, None, sym, ◌∙◌, ap, subst, Decides, Bound, Times, Condition, Program}
use Rattle.expiry_infer.proofs.Common.{Occurrence, AreSolvable, edges_of_conditions, IsSolved, false_is, Network, SolvesConditions, of_points, of_times}
use Rattle.{std.specs.Option.{is_some}, temporal_net.specs.declared.edge.NetEdge.{NetEdge}}
use Rattle.temporal_net.specs.Networks as net
use Rattle.{rule_world.specs.Programs.{NameEarlier}, life_edges.proofs.Solved.{times_of, points_of}}

pub solvable : (p : Program) (conditions : List Condition) → NameEarlier conditions → net.IsSolvable (edges_of_conditions p conditions [] 0 conditions) → AreSolvable p conditions
solvable p conditions named h = (times_of conditions h.0, of_points p conditions [] named h.0 h.1)

pub numbered : (p : Program) (conditions : List Condition) (places : List ℕ) → length conditions ≤ 8 → NameEarlier conditions → (times : Occurrence → Times)
    → SolvesConditions p conditions places times → net.IsSolvable (edges_of_conditions p conditions places 0 conditions)
numbered p conditions places few named times h = (points_of conditions times, of_times p conditions places named times h)

pub unsolvable : (p : Program) (conditions : List Condition) (places : List ℕ) → length conditions ≤ 8 → NameEarlier conditions
    → (net.IsSolvable (edges_of_conditions p conditions places 0 conditions) → ⊥) → (times : Occurrence → Times) → SolvesConditions p conditions places times → ⊥
unsolvable p conditions places few named no_solution times h = no_solution (numbered p conditions places few named times h)

pub answered : (p : Program) (conditions : List Condition) → length conditions ≤ 8 → NameEarlier conditions → (found : Option Network) (answer : Bool)
    → answer ≡ is_some found → IsSolved (edges_of_conditions p conditions [] 0 conditions) found → Decides answer (AreSolvable p conditions)
answered p conditions few named (Some network) answer e h = (λ _. solvable p conditions named h.1, λ _. e)
answered p conditions few named None answer e h = (λ t. absurd (false_is (sym e ∙ t)), λ s. absurd (unsolvable p conditions [] few named h s.0 s.1))

-- what a bound of a solved network says of its edges
pub bound_here : (edges : List NetEdge) (network : Network) (x y from to : ℕ) (bound : Bound) → IsSolved edges (Some network) → from ≡ x → to ≡ y
    → net.IsBound network.edges from to bound → net.IsBound edges x y bound
bound_here edges network x y from to bound solved e f h =
    subst (λ (n : ℕ). net.IsBound edges n y bound) e (subst (λ (n : ℕ). net.IsBound edges from n bound) f
    (subst (λ (all : List NetEdge). net.IsBound all from to bound) (ap (λ (n : Network). n.edges) solved.0) h))
