-- A table's distances are the greatest differences, and where it has none there is no greatest.
use Rattle.temporal_net.proofs.Common.{◌≡◌, ◌≢◌, ℕ, ◌<◌, ℤ, pos, ◌+ℤ◌, ◌-ℤ◌, ◌≤ℤ◌, List, true, false, cond, eqb, Some, None, refl, ap, subst, inl, inr, arith}
use Rattle.temporal_net.proofs.Common.{ints, clamps, eqb_tells, NetEdge, Distance, IsSolvable, IsGreatest, IsUnboundedDifference, HasGreatest, Table}
use Rattle.temporal_net.proofs.{Common.{zero_distance, IsDistanceTable, int_max}, Ways.{same_distance, way_of, follows_leads, follows_members, measured, short}}
use Rattle.temporal_net.proofs.{Sums.{adds_up}, Heights.{height, lowest, below, solves}}

-- more than any distance
far : ℤ
far = pos 288230376151711744

-- y at 0, and each other point as high as `top`
raised : ℕ → ℤ → ℕ → ℤ
raised y top q = cond (eqb q y) (pos 0) top

raised_here : (y q : ℕ) (top : ℤ) → eqb q y ≡ true → raised y top q ≡ pos 0
unfolding raised
raised_here y q top e = ap (λ b. cond b (pos 0) top) e

raised_else : (y q : ℕ) (top : ℤ) → eqb q y ≡ false → raised y top q ≡ top
unfolding raised
raised_else y q top e = ap (λ b. cond b (pos 0) top) e

raised_itself : (y : ℕ) (top : ℤ) → raised y top y ≡ pos 0
raised_itself y top = elim (eqb_tells y y) [ inl e ↦ raised_here y y top e.0 | inr ne ↦ absurd (ne.1 refl) ]

module _ (points : ℕ) (edges : List NetEdge) (t : Table) (table : IsDistanceTable points points edges t) (y : ℕ) (yp : y < points) (top : ℤ) (high : far ≤ℤ top) where
  zero_at : height t (raised y top) points y ≡ pos 0
  unfolding far
  zero_at =
      let under = below points edges t table (raised y top) y y yp zero_distance (table.ways.own y yp) in
      let mine = raised_itself y top in
      let l = lowest points edges t table (raised y top) y yp in
      let sum = l.sum in
      elim (eqb_tells l.point y) [
        | inl e ↦
            let none : l.distance ≡ zero_distance = same_distance (t y y) l.distance zero_distance (subst (λ p. t y p ≡ Some l.distance) e.1 l.is) (table.ways.own y yp) in
            let nothing : l.distance.sum ≡ pos 0 = ap (λ (d : Distance). d.sum) none in
            let w = raised_here y l.point top e.0 in
            omega (arith, ints)
        | inr ne ↦
            let w = raised_else y l.point top ne.0 in
            let s = short points edges t table.ways y l.point l.distance yp l.below l.is in
            let few = s.few in
            let low = s.low in
            absurd (omega (arith, ints))
      ]

  -- a point with a distance to y stands at that distance
  stands : (x : ℕ) (d : Distance) → x < points → t x y ≡ Some d → height t (raised y top) points x ≡ d.sum
  unfolding far
  stands x d xp is =
      let under = below points edges t table (raised y top) x y yp d is in
      let mine = raised_itself y top in
      let l = lowest points edges t table (raised y top) x xp in
      let sum = l.sum in
      elim (eqb_tells l.point y) [
        | inl e ↦
            let same : l.distance.sum ≡ d.sum = ap (λ (a : Distance). a.sum) (same_distance (t x y) l.distance d (subst (λ p. t x p ≡ Some l.distance) e.1 l.is) is) in
            let w = raised_here y l.point top e.0 in
            omega (arith, ints)
        | inr ne ↦
            let w = raised_else y l.point top ne.0 in
            let s = short points edges t table.ways x l.point l.distance xp l.below l.is in
            let s_few = s.few in
            let s_low = s.low in
            let r = short points edges t table.ways x y d xp yp is in
            let r_few = r.few in
            let r_high = r.high in
            absurd (omega (arith, ints))
      ]

  -- a point with no distance to y stands about as high as `top`
  rises : (x : ℕ) → x < points → t x y ≡ None → (top -ℤ far) ≤ℤ height t (raised y top) points x
  unfolding far
  rises x xp none =
      let l = lowest points edges t table (raised y top) x xp in
      let sum = l.sum in
      elim (eqb_tells l.point y) [
        | inl e ↦ let is = subst (λ p. t x p ≡ Some l.distance) e.1 l.is in absurd cc
        | inr ne ↦
            let w = raised_else y l.point top ne.0 in
            let s = short points edges t table.ways x l.point l.distance xp l.below l.is in
            let few = s.few in
            let low = s.low in
            omega (arith, ints)
      ]

module _ (points : ℕ) (edges : List NetEdge) (t : Table) (table : IsDistanceTable points points edges t) where
  pub solvable : IsSolvable edges
  solvable = (height t (λ q. pos 0) points, solves points edges t table (λ q. pos 0))

  pub greatest : (x y : ℕ) (d : Distance) → x < points → y < points → t x y ≡ Some d → IsGreatest edges x y d.sum
  greatest x y d xp yp is =
      let way = way_of points edges t table.ways x y d xp yp is in
      let m = measured points edges t table.ways x y yp way.numbers way.follows d is in
      let sum = m.sum in
      let big : far ≤ℤ far = omega (arith, ints) in
      let at_y = zero_at points edges t table y yp far big in
      let at_x = stands points edges t table y yp far big x d xp is in
      record {
        bounds = λ v s.
            let up = adds_up edges v s x _ y (follows_members points edges t table.ways x y way.numbers way.follows) (follows_leads points edges t table.ways x y way.numbers way.follows) in
            omega (arith, ints);
        attained = (height t (raised y far) points, solves points edges t table (raised y far), omega (arith, ints));
      }

  pub unbounded : (x y : ℕ) → x < points → y < points → t x y ≡ None → IsUnboundedDifference edges x y
  unbounded x y xp yp none = record {
    solvable = solvable;
    passes = λ b.
        let top : ℤ = (int_max b (pos 0) +ℤ far) +ℤ pos 1 in
        let big : far ≤ℤ top = omega (arith, ints, clamps) in
        let at_y = zero_at points edges t table y yp top big in
        let at_x = rises points edges t table y yp top big x xp none in
        (height t (raised y top) points, solves points edges t table (raised y top), omega (arith, ints, clamps));
  }

  -- where there is a greatest difference, the table has a distance
  pub known : (x y : ℕ) → x < points → y < points → HasGreatest edges x y → t x y ≢ None
  known x y xp yp g none =
      let p = (unbounded x y xp yp none).passes g.0 in
      let up = g.1.bounds p.0 p.1 in
      let over = p.2 in
      omega (arith, ints)
