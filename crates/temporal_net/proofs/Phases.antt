-- Lowering each distance by the way over the point k turns a table of ways below k into one below k + 1.
use Rattle.temporal_net.proofs.Common.{◌≡◌, ◌≢◌, ℕ, ◌+◌, ◌<◌, ◌≤◌, ◌⊎◌, ℤ, pos, ◌+ℤ◌, ◌≤ℤ◌, List, Option, Some, sym, ◌∙◌, ap, subst, inl, inr, arith, Contains}
use Rattle.temporal_net.proofs.Common.{ints, cases_eq, NetEdge, Distance, Table, cost, edge_cost, zero_distance, joined, lowered, ReachesWithin, Begins}
use Rattle.temporal_net.proofs.{Common.{HasWays, IsDistanceTable}, Costs.{reaches_more, reaches_known, known_of, cost-joined, lowered_keeps, lowered_joins}}
use Rattle.temporal_net.proofs.{Costs.{Over, lowered_from, zero_stays, zero_first}, Ways.{same_distance, ends_among, widened, short}}

-- a way over a third point, by its costs
record Through (first second : Option Distance) (c : ℤ) : Type 0 where
  before : ℤ
  after : ℤ
  first_at : ReachesWithin first before
  second_at : ReachesWithin second after
  within : (before +ℤ after) ≤ℤ c

-- what a lowered distance reaches, one of the two reached
split : (known first second lower : Option Distance) (c : ℤ) → lower ≡ lowered known first second → ReachesWithin lower c → ReachesWithin known c ⊎ Through first second c
split known first second lower c e h =
    let l : ReachesWithin (lowered known first second) c = subst (λ o. ReachesWithin o c) e h in
    elim (lowered_from known first second) [
      | inl kept ↦ inl (subst (λ o. ReachesWithin o c) kept l)
      | inr over ↦
          let sum : ReachesWithin (Some (joined over.before over.after)) c = subst (λ o. ReachesWithin o c) over.sum l in
          let parts = cost-joined over.before over.after in
          inr (record {
            before = cost over.before;
            after = cost over.after;
            first_at = reaches_known first over.before over.first_is;
            second_at = reaches_known second over.after over.second_is;
            within = omega (arith, ints);
          })
    ]

module _ (points k : ℕ) (edges : List NetEdge) (t u : Table) (inside : k < points) (old : IsDistanceTable points k edges t)
    (next : (x y : ℕ) → x < points → y < points → u x y ≡ lowered (t x y) (t x k) (t k y))
    (round : (x : ℕ) → x < points → (a b : Distance) → t x k ≡ Some a → t k x ≡ Some b → pos 0 ≤ℤ (a.sum +ℤ b.sum)) where
  keeps : (x y : ℕ) → x < points → y < points → (c : ℤ) → ReachesWithin (t x y) c → ReachesWithin (u x y) c
  keeps x y xp yp c h = subst (λ o. ReachesWithin o c) (sym (next x y xp yp)) (lowered_keeps (t x y) (t x k) (t k y) c h)

  over : (x y : ℕ) → x < points → y < points → (a b : ℤ) → ReachesWithin (t x k) a → ReachesWithin (t k y) b → ReachesWithin (u x y) (a +ℤ b)
  over x y xp yp a b h j = subst (λ o. ReachesWithin o (a +ℤ b)) (sym (next x y xp yp)) (lowered_joins (t x y) (t x k) (t k y) a b h j)

  own_next : (p : ℕ) → p < points → u p p ≡ Some zero_distance
  own_next p pp =
      next p p pp pp ∙ ap (λ o. lowered o (t p k) (t k p)) (old.ways.own p pp) ∙ zero_stays (t p k) (t k p) (round p pp)

  -- no way from k to itself costs less than nothing
  at_own : (a : ℤ) → ReachesWithin (t k k) a → pos 0 ≤ℤ a
  at_own a h = let z : ReachesWithin (Some zero_distance) a = subst (λ o. ReachesWithin o a) (old.ways.own k inside) h in omega (arith, ints)

  -- a point up to k on a way that begins or ends at k
  to_k : (i x : ℕ) → i < k + 1 → x < points → (a b : ℤ) → ReachesWithin (t x i) a → ReachesWithin (t i k) b → ReachesWithin (t x k) (a +ℤ b)
  to_k i x lt xp a b h j =
      elim (cases_eq i k) [
        | inl e ↦
            let hk : ReachesWithin (t x k) a = subst (λ p. ReachesWithin (t x p) a) e h in
            let jk : pos 0 ≤ℤ b = at_own b (subst (λ p. ReachesWithin (t p k) b) e j) in
            reaches_more (t x k) a (a +ℤ b) hk (omega (arith, ints))
        | inr ne ↦ old.triangle i x k (omega arith) xp inside a b h j
      ]

  from_k : (i y : ℕ) → i < k + 1 → y < points → (a b : ℤ) → ReachesWithin (t k i) a → ReachesWithin (t i y) b → ReachesWithin (t k y) (a +ℤ b)
  from_k i y lt yp a b h j =
      elim (cases_eq i k) [
        | inl e ↦
            let jk : ReachesWithin (t k y) b = subst (λ p. ReachesWithin (t p y) b) e j in
            let hk : pos 0 ≤ℤ a = at_own a (subst (λ p. ReachesWithin (t k p) a) e h) in
            reaches_more (t k y) b (a +ℤ b) jk (omega (arith, ints))
        | inr ne ↦ old.triangle i k y (omega arith) inside yp a b h j
      ]

  pub triangle_next : (i x y : ℕ) → i < k + 1 → x < points → y < points → (a b : ℤ) → ReachesWithin (u x i) a → ReachesWithin (u i y) b → ReachesWithin (u x y) (a +ℤ b)
  triangle_next i x y lt xp yp a b h j =
      let ip : i < points = omega arith in
      elim (split (t x i) (t x k) (t k i) (u x i) a (next x i xp ip) h) [
        | inl keep ↦ elim (split (t i y) (t i k) (t k y) (u i y) b (next i y ip yp) j) [
          | inl also ↦ elim (cases_eq i k) [
            | inl e ↦ over x y xp yp a b (subst (λ p. ReachesWithin (t x p) a) e keep) (subst (λ p. ReachesWithin (t p y) b) e also)
            | inr ne ↦ keeps x y xp yp (a +ℤ b) (old.triangle i x y (omega arith) xp yp a b keep also)
          ]
          | inr late ↦
              let l = late.within in
              reaches_more (u x y) ((a +ℤ late.before) +ℤ late.after) (a +ℤ b) (over x y xp yp (a +ℤ late.before) late.after (to_k i x lt xp a late.before keep late.first_at) late.second_at) (omega (arith, ints))
        ]
        | inr early ↦ elim (split (t i y) (t i k) (t k y) (u i y) b (next i y ip yp) j) [
          | inl also ↦
              let l = early.within in
              reaches_more (u x y) (early.before +ℤ (early.after +ℤ b)) (a +ℤ b) (over x y xp yp early.before (early.after +ℤ b) early.first_at (from_k i y lt yp early.after b early.second_at also)) (omega (arith, ints))
          | inr late ↦
              let l = early.within in
              let m = late.within in
              let turn : pos 0 ≤ℤ (early.after +ℤ late.before) = at_own (early.after +ℤ late.before) (to_k i k lt inside early.after late.before early.second_at late.first_at) in
              reaches_more (u x y) (early.before +ℤ late.after) (a +ℤ b) (over x y xp yp early.before late.after early.first_at late.second_at) (omega (arith, ints))
        ]
      ]

  wide : HasWays points points edges t
  wide = widened points k points edges t (omega arith) old.ways

  few_next : (x y : ℕ) → x < points → y < points → (d : Distance) → u x y ≡ Some d → d.edges ≤ 30
  few_next x y xp yp d is =
      elim (lowered_from (t x y) (t x k) (t k y)) [
        | inl kept ↦ let s = short points edges t wide x y d xp yp (sym kept ∙ sym (next x y xp yp) ∙ is) in let few = s.few in omega arith
        | inr o ↦
            let a = short points edges t wide x k o.before xp inside o.first_is in
            let b = short points edges t wide k y o.after inside yp o.second_is in
            let same : d ≡ joined o.before o.after = same_distance (u x y) d (joined o.before o.after) is (next x y xp yp ∙ o.sum) in
            let count : d.edges ≡ o.before.edges + o.after.edges = ap (λ (s : Distance). s.edges) same in
            let a_few = a.few in
            let b_few = b.few in
            omega arith
      ]

  direct_next : (e : NetEdge) → Contains edges e → ReachesWithin (u e.x e.y) (edge_cost e)
  direct_next e m = let p = ends_among points edges e old.ways.among m in keeps e.x e.y p.0 p.1 (edge_cost e) (old.direct e m)

  -- the costs of the edge and of the rest are together at least the whole distance
  reach_over : (x y : ℕ) → x < points → y < points → (e : NetEdge) → Contains edges e → e.x ≡ x → (e.y ≡ y) ⊎ (e.y < k + 1) → (rest : Distance) → u e.y y ≡ Some rest → ReachesWithin (u x y) (edge_cost e +ℤ cost rest)
  reach_over x y xp yp e m from inner rest is =
      let first : ReachesWithin (u x e.y) (edge_cost e) = subst (λ p. ReachesWithin (u p e.y) (edge_cost e)) from (direct_next e m) in
      elim inner [
        | inl end ↦
            let none : rest ≡ zero_distance = same_distance (u y y) rest zero_distance (subst (λ p. u p y ≡ Some rest) end is) (own_next y yp) in
            let nothing : cost rest ≡ cost zero_distance = ap cost none in
            reaches_more (u x y) (edge_cost e) (edge_cost e +ℤ cost rest) (subst (λ p. ReachesWithin (u x p) (edge_cost e)) end first) (omega (arith, ints))
        | inr lt ↦ triangle_next e.y x y lt xp yp (edge_cost e) (cost rest) first (reaches_known (u e.y y) rest is)
      ]

  begin_at : (x y : ℕ) → x < points → y < points → (e : NetEdge) → Contains edges e → e.x ≡ x → (e.y ≡ y) ⊎ (e.y < k + 1) → (d : Distance) → u x y ≡ Some d → (c : ℤ) → ReachesWithin (u e.y y) c → (edge_cost e +ℤ c) ≤ℤ cost d → Begins (k + 1) edges u x y d e
  begin_at x y xp yp e m from inner d is c onward least =
      let yd = (ends_among points edges e old.ways.among m).1 in
      let known = known_of (u e.y y) c onward in
      let rest = known.distance in
      let below = known.least in
      let above : cost d ≤ℤ (edge_cost e +ℤ cost rest) = subst (λ o. ReachesWithin o (edge_cost e +ℤ cost rest)) is (reach_over x y xp yp e m from inner rest known.is) in
      let few_d = few_next x y xp yp d is in
      let few_rest = few_next e.y y yd yp rest known.is in
      record { member = m; from = from; inner = inner; rest = rest; onward = known.is; sum = omega (arith, ints); count = omega (arith, ints) }

  begin_kept : (x y : ℕ) → x < points → y < points → x ≢ y → (d : Distance) → u x y ≡ Some d → t x y ≡ Some d → (e : NetEdge) × Begins (k + 1) edges u x y d e
  begin_kept x y xp yp ne d is was =
      let b = old.ways.begins x y xp yp ne d was in
      let e = b.0 in
      let yd = (ends_among points edges e old.ways.among b.1.member).1 in
      let inner : (e.y ≡ y) ⊎ (e.y < k + 1) = elim b.1.inner [ inl same ↦ inl same | inr lt ↦ inr (omega arith) ] in
      let sum = b.1.sum in
      let count = b.1.count in
      (e, begin_at x y xp yp e b.1.member b.1.from inner d is (cost b.1.rest) (keeps e.y y yd yp (cost b.1.rest) (reaches_known (t e.y y) b.1.rest b.1.onward)) (omega (arith, ints)))

  begin_over : (x y : ℕ) → x < points → y < points → x ≢ y → (d : Distance) → u x y ≡ Some d → Over (t x k) (t k y) (lowered (t x y) (t x k) (t k y)) → x ≢ k → (e : NetEdge) × Begins (k + 1) edges u x y d e
  begin_over x y xp yp ne d is o apart =
      let b = old.ways.begins x k xp inside apart o.before o.first_is in
      let e = b.0 in
      let yd = (ends_among points edges e old.ways.among b.1.member).1 in
      let inner : (e.y ≡ y) ⊎ (e.y < k + 1) = inr (elim b.1.inner [ inl same ↦ omega arith | inr lt ↦ omega arith ]) in
      let same : d ≡ joined o.before o.after = same_distance (u x y) d (joined o.before o.after) is (next x y xp yp ∙ o.sum) in
      let whole : cost d ≡ cost (joined o.before o.after) = ap cost same in
      let sum = b.1.sum in
      let count = b.1.count in (
        e,
        begin_at x y xp yp e b.1.member b.1.from inner d is (cost b.1.rest +ℤ cost o.after)
            (over e.y y yd yp (cost b.1.rest) (cost o.after) (reaches_known (t e.y k) b.1.rest b.1.onward) (reaches_known (t k y) o.after o.second_is)) (omega (arith, ints)),
      )

  -- over k itself nothing is lowered
  kept_from_k : (y : ℕ) → y < points → u k y ≡ t k y
  kept_from_k y yp = next k y inside yp ∙ ap (λ o. lowered (t k y) o (t k y)) (old.ways.own k inside) ∙ zero_first (t k y)

  begins_next : (x y : ℕ) → x < points → y < points → x ≢ y → (d : Distance) → u x y ≡ Some d → (e : NetEdge) × Begins (k + 1) edges u x y d e
  begins_next x y xp yp ne d is =
      elim (cases_eq x k) [
        | inl e ↦ begin_kept x y xp yp ne d is (subst (λ p. t p y ≡ Some d) (sym e) (sym (kept_from_k y yp) ∙ subst (λ p. u p y ≡ Some d) e is))
        | inr apart ↦ elim (lowered_from (t x y) (t x k) (t k y)) [
          | inl kept ↦ begin_kept x y xp yp ne d is (sym kept ∙ sym (next x y xp yp) ∙ is)
          | inr o ↦ begin_over x y xp yp ne d is o apart
        ]
      ]

  pub next_table : IsDistanceTable points (k + 1) edges u
  next_table = record {
    ways = record { few = old.ways.few; among = old.ways.among; small = old.ways.small; own = own_next; begins = begins_next };
    direct = direct_next;
    triangle = triangle_next;
  }
