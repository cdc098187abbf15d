-- Where a network has a solution, its potentials stand still after as many rounds as it has points, and are one.
use Rattle.temporal_net.proofs.Common.{◌≡◌, ℕ, zero, suc, ◌<◌, ◌≤◌, ◌⊎◌, ℤ, ◌+ℤ◌, ◌-ℤ◌, ◌≤ℤ◌, ◌<ℤ◌, Bool, true, false, List, [], ◌∷◌, length, get_or, eqb}
use Rattle.temporal_net.proofs.Common.{eq-eqb, refl, sym, ◌∙◌, subst, inl, inr, arith, int_min, All, AllByRecursion, Contains, eqb-true, eqb_tells, ints}
use Rattle.temporal_net.proofs.Common.{clamps, by_lt_z, All-nil, All-cons, All-contains, All-from_recursion, length-le_from_distinct_below, NetEdge}
use Rattle.temporal_net.proofs.Common.{HasItsPoints, IsSolvable, MeetsEdge, SolvesEdges, list_all, Decides-by_and, Decides-like, All-weaker}
use Rattle.temporal_net.{proofs.{Common.{Contains-append_right}, Ways.{ends_among}}, specs.Potentials.{is_met, is_solvable, potentials, relaxed}}
use Rattle.std.{specs.{Bool.{Decides, if◌then◌else◌}, List.{IsDistinct}}, proofs.lemmas.Map.Views.{Contains-from_any}}

-- ---- one round

not_above : (b : Bool) (a z : ℤ) → (if b then int_min a z else z) ≤ℤ z
not_above true a z = omega (arith, ints, clamps)
not_above false a z = omega (arith, ints)

not_above_edge : (b : Bool) (a z : ℤ) → b ≡ true → (if b then int_min a z else z) ≤ℤ a
not_above_edge true a z h = omega (arith, ints, clamps)
not_above_edge false a z h = absurd cc

kept_or_lowered : (b : Bool) (a z : ℤ) → ((if b then int_min a z else z) ≡ z) ⊎ ((b ≡ true) × ((if b then int_min a z else z) ≡ a))
kept_or_lowered true a z = by_lt_z a z (λ lt. inr (refl, omega (arith, ints, clamps))) (λ le. inl (omega (arith, ints, clamps)))
kept_or_lowered false a z = inl refl

never_rises : (edges : List NetEdge) (v : ℕ → ℤ) (p : ℕ) → relaxed edges v p ≤ℤ v p
never_rises [] v p = omega (arith, ints)
never_rises (e ∷ edges) v p =
    let rest = never_rises edges v p in
    let here = not_above (eqb e.x p) (e.most +ℤ v e.y) (relaxed edges v p) in
    omega (arith, ints)

-- what an edge allows a point after a round, by the numbers before it
abbrev Allowed : List NetEdge → (ℕ → ℤ) → NetEdge → Type 0
Allowed edges v e = relaxed edges v e.x ≤ℤ (e.most +ℤ v e.y)

all_allowed : (edges : List NetEdge) (v : ℕ → ℤ) → All (Allowed edges v) edges
all_allowed [] v = All-nil (Allowed [] v)
all_allowed (e ∷ edges) v =
    All-cons (Allowed (e ∷ edges) v) e edges (not_above_edge (eqb e.x e.x) (e.most +ℤ v e.y) (relaxed edges v e.x) (eq-eqb e.x e.x refl))
    (All-weaker (Allowed edges v) (Allowed (e ∷ edges) v) (λ f rest. let here = not_above (eqb e.x f.x) (e.most +ℤ v e.y) (relaxed edges v f.x) in omega (arith, ints)) edges
    (all_allowed edges v))

-- the edge gives the point its number
record Lowers (edges : List NetEdge) (v : ℕ → ℤ) (p : ℕ) (e : NetEdge) : Type 0 where
  member : Contains edges e
  from : e.x ≡ p
  sum : relaxed edges v p ≡ (e.most +ℤ v e.y)

lowered_by : (edges : List NetEdge) (v : ℕ → ℤ) (p : ℕ) → (relaxed edges v p ≡ v p) ⊎ ((e : NetEdge) × Lowers edges v p e)
lowered_by [] v p = inl refl
lowered_by (e ∷ edges) v p = elim (kept_or_lowered (eqb e.x p) (e.most +ℤ v e.y) (relaxed edges v p)) [
  | inr h ↦ inr (e, record { member = (0, omega arith, refl); from = eqb-true e.x p h.0; sum = h.1 })
  | inl kept ↦ elim (lowered_by edges v p) [
    | inl same ↦ inl (kept ∙ same)
    | inr l ↦ inr (l.0, record { member = Contains-append_right (e ∷ []) edges l.0 l.1.member; from = l.1.from; sum = kept ∙ l.1.sum })
  ]
]

-- ---- rounds, against a solution

module _ (points : ℕ) (edges : List NetEdge) (among : All (HasItsPoints points) edges) (s : ℕ → ℤ) (solves : SolvesEdges edges s) where
  -- a point that stands at most this far above the solution
  record Low (round : ℕ) (most : ℤ) (q : ℕ) : Type 0 where
    inside : q < points
    low : (potentials edges round q -ℤ s q) ≤ℤ most

  -- as many points as rounds, no two the same, each as low as the point p
  record LowPoints (round p : ℕ) : Type 0 where
    found : List ℕ
    long : length found ≡ round
    once : IsDistinct eqb found
    each : AllByRecursion (Low round (potentials edges round p -ℤ s p)) found

  still_low : (round : ℕ) (a b : ℤ) → a ≤ℤ b → (ps : List ℕ) → AllByRecursion (Low round a) ps → AllByRecursion (Low (suc round) b) ps
  unfolding potentials
  still_low round a b le [] h = tt
  still_low round a b le (p ∷ ps) h =
      let low = h.0.low in
      let less = never_rises edges (potentials edges round) p in
      (record { inside = h.0.inside; low = omega (arith, ints) }, still_low round a b le ps h.1)

  apart : (round p : ℕ) (a : ℤ) → a <ℤ (potentials edges round p -ℤ s p) → (qs : List ℕ) → AllByRecursion (Low round a) qs → AllByRecursion (λ q. eqb p q ≡ false) qs
  apart round p a above [] h = tt
  apart round p a above (q ∷ qs) h = (
    elim (eqb_tells p q) [
      | inl e ↦
          let low : (potentials edges round p -ℤ s p) ≤ℤ a = subst (λ r. (potentials edges round r -ℤ s r) ≤ℤ a) (sym e.1) h.0.low in
          absurd (omega (arith, ints))
      | inr ne ↦ ne.0
    ],
    apart round p a above qs h.1,
  )

  -- where a point falls, it does so by a point that fell in the round before, and so back to the first round
  falling : (round p : ℕ) → p < points → potentials edges (suc round) p <ℤ potentials edges round p → LowPoints (suc round) p
  unfolding potentials IsDistinct
  falling zero p pp falls = record { found = p ∷ []; long = refl; once = (tt, tt); each = (record { inside = pp; low = omega (arith, ints) }, tt) }
  falling (suc round) p pp falls = elim (lowered_by edges (potentials edges (suc round)) p) [
    | inl same ↦ absurd (omega (arith, ints))
    | inr l ↦
        let e = l.0 in
        let q = e.y in
        let sum = l.1.sum in
        let up : (s p -ℤ s q) ≤ℤ e.most = subst (λ r. (s r -ℤ s q) ≤ℤ e.most) l.1.from (All-contains (MeetsEdge s) edges e solves l.1.member) in
        let allowed : potentials edges (suc round) p ≤ℤ (e.most +ℤ potentials edges round q) =
        subst (λ r. potentials edges (suc round) r ≤ℤ (e.most +ℤ potentials edges round q)) l.1.from
        (All-contains (Allowed edges (potentials edges round)) edges e (all_allowed edges (potentials edges round)) l.1.member) in
        let fell : potentials edges (suc round) q <ℤ potentials edges round q =
        by_lt_z (potentials edges (suc round) q) (potentials edges round q) (λ lt. lt) (λ le. absurd (omega (arith, ints))) in
        let before = falling round q (ends_among points edges e among l.1.member).1 fell in
        let a = potentials edges (suc round) q -ℤ s q in
        let b = potentials edges (suc (suc round)) p -ℤ s p in
        let le : a ≤ℤ b = omega (arith, ints) in
        let above : a <ℤ (potentials edges (suc round) p -ℤ s p) = omega (arith, ints) in
        let long = before.long in
        record {
          found = p ∷ before.found;
          long = omega arith;
          once = (apart (suc round) p a above before.found before.each, before.once);
          each = (record { inside = pp; low = omega (arith, ints) }, still_low (suc round) a b le before.found before.each);
        }
  ]

  -- so no point falls in more rounds than there are points
  no_more : (round p : ℕ) → LowPoints round p → round ≤ points
  no_more round p l =
      let P : ℕ → Type 0 = Low round (potentials edges round p -ℤ s p) in
      let most = length-le_from_distinct_below l.found points l.once
      (λ q any. (All-contains P l.found q (All-from_recursion P l.found l.each) (Contains-from_any (λ x y e. eqb-true x y e) q l.found any)).inside) in
      let long = l.long in
      omega arith

  pub potentials_solve : (round : ℕ) → points ≤ round → SolvesEdges edges (potentials edges round)
  unfolding potentials
  potentials_solve round le k d lt =
      let x = (get_or edges k d).x in
      let allowed = all_allowed edges (potentials edges round) k d lt in
      by_lt_z (potentials edges (suc round) x) (potentials edges round x)
      (λ falls. let most = no_more (suc round) x (falling round x (among k d lt).0 falls) in absurd (omega arith))
      (λ still. omega (arith, ints))

-- `is_solvable` decides whether there is a solution
pub decided : (points : ℕ) (edges : List NetEdge) → points ≤ 16 → All (HasItsPoints points) edges → Decides (is_solvable edges) (IsSolvable edges)
unfolding is_solvable
decided points edges few among =
    let v = potentials edges 16 in
    Decides-like (list_all (is_met v) edges) (λ h. (v, h)) (λ h. potentials_solve points edges among h.0 h.1 16 few)
    (Decides-by_and (is_met v) (MeetsEdge v) (list_all (is_met v)) (λ e. (λ h. grind (arith, ints), λ h. grind (arith, ints))) refl (λ _ _. refl) edges)
