-- Whether a network has a solution, as a function of its edges: the algorithm of Bellman and Ford. That it decides `IsSolvable`
-- is a law (src/laws.rt).
use Rattle.std.specs.{Prelude.{ℕ, zero, suc, ◌==◌, ℤ, pos, ◌+ℤ◌, ◌-ℤ◌, int_le, Bool, if◌then◌else◌, List, [], ◌∷◌}, Int.{int_min}, List.{list_all}}
use Rattle.temporal_net.specs.declared.edge.NetEdge.{NetEdge}

-- whether the edge holds of these numbers
abbrev pub is_met : (ℕ → ℤ) → NetEdge → Bool
is_met v e = int_le (v e.x -ℤ v e.y) e.most

-- the number of the point, lowered to the least that an edge from it allows, where that is less
abbrev pub relaxed : List NetEdge → (ℕ → ℤ) → ℕ → ℤ
relaxed [] v p = v p
relaxed (e ∷ edges) v p = if e.x == p then int_min (e.most +ℤ v e.y) (relaxed edges v p) else relaxed edges v p

-- 0 for each point, relaxed in so many rounds
unfoldable pub potentials : List NetEdge → ℕ → ℕ → ℤ
potentials edges zero p = pos 0
potentials edges (suc round) p = relaxed edges (potentials edges round) p

-- whether each edge holds of the numbers after as many rounds as a network may have points
unfoldable pub is_solvable : List NetEdge → Bool
is_solvable edges = list_all (is_met (potentials edges 16)) edges
