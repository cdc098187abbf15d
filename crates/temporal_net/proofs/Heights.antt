-- Solutions from a table: each point as high as its least way to a weighted point.
use Rattle.temporal_net.proofs.Common.{◌≡◌, ℕ, zero, suc, ◌<◌, ◌⊎◌, ℤ, ◌+ℤ◌, ◌≤ℤ◌, int_lt, List, Option, Some, None, true, false, cond, refl, sym, ◌∙◌, subst}
use Rattle.temporal_net.proofs.Common.{inl, inr, arith, int_min, Contains, ints, clamps, cases_eq, Contains-get_or, NetEdge, Distance, MeetsEdge, SolvesEdges}
use Rattle.temporal_net.proofs.{Common.{Table, cost, edge_cost, zero_distance, IsDistanceTable}, Costs.{reaches_known, known_of}, Ways.{ends_among, short}}

dip : Option Distance → ℤ → ℤ → ℤ
dip None w z = z
dip (Some d) w z = int_min (d.sum +ℤ w) z

-- the least of the weight of p and, over the points q below n that p reaches, of the distance to q and q's weight
pub height : Table → (ℕ → ℤ) → ℕ → ℕ → ℤ
height t weight zero p = weight p
height t weight (suc q) p = dip (t p q) (weight q) (height t weight q p)

dip_below : (o : Option Distance) (w z : ℤ) → dip o w z ≤ℤ z
unfolding dip
dip_below None w z = omega (arith, ints)
dip_below (Some d) w z = omega (arith, ints, clamps)

dip_at : (o : Option Distance) (w z : ℤ) (d : Distance) → o ≡ Some d → dip o w z ≤ℤ (d.sum +ℤ w)
unfolding dip
dip_at None w z d is = absurd cc
dip_at (Some e) w z d is =
    let same : d.sum ≡ e.sum = cc in
    omega (arith, ints, clamps)

-- where the least is
pub record Lowest (t : Table) (weight : ℕ → ℤ) (n p : ℕ) (z : ℤ) : Type 0 where
  pub point : ℕ
  pub below : point < n
  pub distance : Distance
  pub is : t p point ≡ Some distance
  pub sum : z ≡ (distance.sum +ℤ weight point)

dip_from : (o : Option Distance) (w z : ℤ) → (dip o w z ≡ z) ⊎ ((d : Distance) × (o ≡ Some d) × (dip o w z ≡ (d.sum +ℤ w)))
unfolding dip
dip_from None w z = inl refl
dip_from (Some d) w z =
    elim (int_lt z (d.sum +ℤ w)) as (λ b. (cond b z (d.sum +ℤ w) ≡ z) ⊎ ((e : Distance) × (Some d ≡ Some e) × (cond b z (d.sum +ℤ w) ≡ (e.sum +ℤ w)))) [
      | true ↦ inl refl
      | false ↦ inr (d, refl, refl)
    ]

module _ (t : Table) (weight : ℕ → ℤ) where
  lowest_by : (n p : ℕ) → (height t weight n p ≡ weight p) ⊎ Lowest t weight n p (height t weight n p)
  unfolding height
  lowest_by zero p = inl refl
  lowest_by (suc q) p =
      elim (dip_from (t p q) (weight q) (height t weight q p)) [
        | inl same ↦ elim (lowest_by q p) [
          | inl own ↦ inl (same ∙ own)
          | inr l ↦ inr (record { point = l.point; below = (let b = l.below in omega arith); distance = l.distance; is = l.is; sum = same ∙ l.sum })
        ]
        | inr here ↦ inr (record { point = q; below = omega arith; distance = here.0; is = here.1; sum = here.2 })
      ]

  below_each : (n p q : ℕ) → q < n → (d : Distance) → t p q ≡ Some d → height t weight n p ≤ℤ (d.sum +ℤ weight q)
  unfolding height
  below_each zero p q lt d is = absurd (omega arith)
  below_each (suc r) p q lt d is =
      elim (cases_eq q r) [
        | inl e ↦
            let here = dip_at (t p r) (weight r) (height t weight r p) d (subst (λ s. t p s ≡ Some d) e is) in
            subst (λ s. dip (t p r) (weight r) (height t weight r p) ≤ℤ (d.sum +ℤ weight s)) (sym e) here
        | inr ne ↦
            let before = below_each r p q (omega arith) d is in
            let less = dip_below (t p r) (weight r) (height t weight r p) in
            omega (arith, ints)
      ]

module _ (points : ℕ) (edges : List NetEdge) (t : Table) (table : IsDistanceTable points points edges t) (weight : ℕ → ℤ) where
  pub lowest : (p : ℕ) → p < points → Lowest t weight points p (height t weight points p)
  lowest p pp = elim (lowest_by t weight points p) [
    | inl own ↦ record { point = p; below = pp; distance = zero_distance; is = table.ways.own p pp; sum = own ∙ omega (arith, ints) }
    | inr l ↦ l
  ]

  pub below : (p q : ℕ) → q < points → (d : Distance) → t p q ≡ Some d → height t weight points p ≤ℤ (d.sum +ℤ weight q)
  below p q lt d is = below_each t weight points p q lt d is

  meets : (e : NetEdge) → Contains edges e → MeetsEdge (height t weight points) e
  meets e m =
      let p = ends_among points edges e table.ways.among m in
      let l = lowest e.y p.1 in
      let far = known_of (t e.x l.point) (edge_cost e +ℤ cost l.distance)
      (table.triangle e.y e.x l.point p.1 p.0 l.below (edge_cost e) (cost l.distance) (table.direct e m) (reaches_known (t e.y l.point) l.distance l.is)) in
      let up = below e.x l.point l.below far.distance far.is in
      let least = far.least in
      let s = short points edges t table.ways e.y l.point l.distance p.1 l.below l.is in
      let few = s.few in
      let sum = l.sum in
      omega (arith, ints)

  pub solves : SolvesEdges edges (height t weight points)
  solves k d lt = meets _ (Contains-get_or edges k d lt)
