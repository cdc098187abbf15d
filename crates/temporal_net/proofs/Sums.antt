-- Adding up the edges of a way bounds the difference of its ends in each solution.
use Rattle.temporal_net.proofs.Common.{◌≡◌, ℕ, ◌<◌, ℤ, pos, ◌+ℤ◌, ◌-ℤ◌, ◌≤ℤ◌, List, [], ◌∷◌, ◌++◌, map, length, sym, subst, arith, AllByRecursion, Contains}
use Rattle.temporal_net.proofs.Common.{ints, All-contains, recursion_from_All, Contains-get_or, NetEdge, MeetsEdge, SolvesEdges, LeadsWay, total, edge_at}
use Rattle.temporal_net.proofs.Common.{IsNegativeCycle}

pub adds_up : (edges : List NetEdge) (v : ℕ → ℤ) → SolvesEdges edges v → (x : ℕ) (way : List NetEdge) (y : ℕ) → AllByRecursion (Contains edges) way → LeadsWay x way y → (v x -ℤ v y) ≤ℤ total way
adds_up edges v s x [] y m l = let same : (v x -ℤ v x) ≤ℤ pos 0 = omega (arith, ints) in subst (λ p. (v x -ℤ v p) ≤ℤ pos 0) l same
adds_up edges v s x (e ∷ way) y m l =
    let first : (v e.x -ℤ v e.y) ≤ℤ e.most = All-contains (MeetsEdge v) edges e s m.0 in
    let rest = adds_up edges v s e.y way y m.1 l.1 in
    let whole : (v e.x -ℤ v y) ≤ℤ (e.most +ℤ total way) = omega (arith, ints) in
    subst (λ p. (v p -ℤ v y) ≤ℤ (e.most +ℤ total way)) l.0 whole

members_of : (edges : List NetEdge) (numbers : List ℕ) → AllByRecursion (λ n. n < length edges) numbers → AllByRecursion (Contains edges) (map (edge_at edges) numbers)
members_of edges [] h = tt
members_of edges (n ∷ numbers) h = (Contains-get_or edges n _ h.0, members_of edges numbers h.1)

-- a negative cycle leaves no solution
pub no_solution : (edges : List NetEdge) (cycle : List ℕ) → IsNegativeCycle edges cycle → (v : ℕ → ℤ) → SolvesEdges edges v → ⊥
no_solution edges cycle c v s =
    let known = recursion_from_All (λ n. n < length edges) cycle c.numbers in
    let x = c.closes.0 in
    let round = adds_up edges v s x (map (edge_at edges) cycle) x (members_of edges cycle known) c.closes.1 in
    let negative = c.negative in
    omega (arith, ints)

pub total-append : (a b : List NetEdge) → total (a ++ b) ≡ (total a +ℤ total b)
total-append [] b = omega (arith, ints)
total-append (e ∷ a) b = let rest = total-append a b in omega (arith, ints)

pub leads_on : (x : ℕ) (a : List NetEdge) (y : ℕ) (b : List NetEdge) (z : ℕ) → LeadsWay x a y → LeadsWay y b z → LeadsWay x (a ++ b) z
leads_on x [] y b z h k = subst (λ p. LeadsWay p b z) (sym h) k
leads_on x (e ∷ a) y b z h k = (h.0, leads_on e.y a y b z h.1 k)
