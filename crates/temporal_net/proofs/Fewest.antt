-- Each way has at least the sum of the table's distance, and where it has the same sum, at least as many edges.
use Rattle.temporal_net.proofs.Common.{◌≡◌, ℕ, suc, ◌<◌, ◌≤◌, ◌⊎◌, ℤ, ◌+ℤ◌, ◌≤ℤ◌, ◌<ℤ◌, List, [], ◌∷◌, length, Some, refl, sym, subst, inl, inr, arith}
use Rattle.temporal_net.proofs.Common.{AllByRecursion, Contains, ints, by_lt_z, NetEdge, Distance, LeadsWay, total, Table, cost, edge_cost, zero_distance}
use Rattle.temporal_net.proofs.{Common.{ReachesWithin, IsDistanceTable}, Costs.{reaches_known, known_of}, Ways.{ends_among, short}}

-- a lesser sum, or the same sum and no more edges
abbrev pub IsNoMore : Distance → ℤ → ℕ → Type 0
IsNoMore d sum count = (d.sum <ℤ sum) ⊎ ((d.sum ≡ sum) × (d.edges ≤ count))

pub record Least (t : Table) (x y : ℕ) (way : List NetEdge) : Type 0 where
  pub distance : Distance
  pub is : t x y ≡ Some distance
  pub least : IsNoMore distance (total way) (length way)

-- one more edge
longer : (d r : Distance) (e : NetEdge) (sum : ℤ) (count : ℕ) → d.edges ≤ 15 → r.edges ≤ 15 → cost d ≤ℤ (edge_cost e +ℤ cost r) → IsNoMore r sum count → IsNoMore d (e.most +ℤ sum) (suc count)
longer d r e sum count a b c (inl l) = inl (omega (arith, ints))
longer d r e sum count a b c (inr p) =
    let same = p.0 in
    let fewer = p.1 in
    by_lt_z d.sum (e.most +ℤ sum) (λ lt. inl lt) (λ ge. inr (omega (arith, ints), omega (arith, ints)))

module _ (points : ℕ) (edges : List NetEdge) (t : Table) (table : IsDistanceTable points points edges t) where
  pub least_of_ways : (x y : ℕ) → x < points → y < points → (way : List NetEdge) → AllByRecursion (Contains edges) way → LeadsWay x way y → Least t x y way
  least_of_ways x y xp yp [] m l =
      record { distance = zero_distance; is = subst (λ p. t p y ≡ Some zero_distance) (sym l) (table.ways.own y yp); least = inr (refl, omega arith) }
  least_of_ways x y xp yp (e ∷ way) m l =
      let p = ends_among points edges e table.ways.among m.0 in
      let rest = least_of_ways e.y y p.1 yp way m.1 l.1 in
      let r = rest.distance in
      let first : ReachesWithin (t x e.y) (edge_cost e) = subst (λ q. ReachesWithin (t q e.y) (edge_cost e)) l.0 (table.direct e m.0) in
      let known = known_of (t x y) (edge_cost e +ℤ cost r) (table.triangle e.y x y p.1 xp yp (edge_cost e) (cost r) first (reaches_known (t e.y y) r rest.is)) in
      let few_d = (short points edges t table.ways x y known.distance xp yp known.is).few in
      let few_r = (short points edges t table.ways e.y y r p.1 yp rest.is).few in
      record { distance = known.distance; is = known.is; least = longer known.distance r e (total way) (length way) few_d few_r known.least rest.least }
