-- Lowering the distance between an edge's ends adds the edge to a table of ways with no inner points.
use Rattle.temporal_net.proofs.Common.{◌≡◌, ◌≢◌, ℕ, ◌<◌, ◌⊎◌, ℤ, pos, ◌≤ℤ◌, List, [], ◌∷◌, ◌++◌, Some, sym, ◌∙◌, ap, subst, inl, inr, arith, Contains, ints}
use Rattle.temporal_net.proofs.Common.{cases_eq, All-contains, NetEdge, Distance, HasItsPoints, IsSmallEdge, Table, edge_cost, edge_distance, zero_distance}
use Rattle.temporal_net.proofs.Common.{lesser, ReachesWithin, Begins, IsDistanceTable, All-push, Contains-append_left, Contains-push, Contains-push_cases}
use Rattle.temporal_net.proofs.{Costs.{lesser_keeps, lesser_reaches, lesser_from, zero_kept}, Ways.{same_distance}}

module _ (points : ℕ) (edges : List NetEdge) (t u : Table) (old : IsDistanceTable points 0 edges t)
    (e : NetEdge) (among : HasItsPoints points e) (small : IsSmallEdge e) (loop : e.x ≡ e.y → pos 0 ≤ℤ e.most)
    (here : u e.x e.y ≡ Some (lesser (t e.x e.y) (edge_distance e)))
    (others : (x y : ℕ) → x < points → y < points → (x ≡ e.x → y ≡ e.y → ⊥) → u x y ≡ t x y) where
  -- a place is that of the edge or as it was
  place : (x y : ℕ) → x < points → y < points → ((x ≡ e.x) × (y ≡ e.y)) ⊎ (u x y ≡ t x y)
  place x y xp yp = elim (cases_eq x e.x) [
    | inl a ↦ elim (cases_eq y e.y) [ inl b ↦ inl (a, b) | inr apart ↦ inr (others x y xp yp (λ p q. apart q)) ]
    | inr apart ↦ inr (others x y xp yp (λ p q. apart p))
  ]

  at : (x y : ℕ) → x ≡ e.x → y ≡ e.y → u x y ≡ Some (lesser (t x y) (edge_distance e))
  at x y p q = subst (λ a. u a y ≡ Some (lesser (t a y) (edge_distance e))) (sym p) (subst (λ b. u e.x b ≡ Some (lesser (t e.x b) (edge_distance e))) (sym q) here)

  keeps : (x y : ℕ) → x < points → y < points → (c : ℤ) → ReachesWithin (t x y) c → ReachesWithin (u x y) c
  keeps x y xp yp c h = elim (place x y xp yp) [
    | inl it ↦ subst (λ o. ReachesWithin o c) (sym (at x y it.0 it.1)) (lesser_keeps (t x y) (edge_distance e) c h)
    | inr same ↦ subst (λ o. ReachesWithin o c) (sym same) h
  ]

  own_added : (p : ℕ) → p < points → u p p ≡ Some zero_distance
  own_added p pp = elim (place p p pp pp) [
    | inl it ↦ at p p it.0 it.1 ∙ ap (λ o. Some (lesser o (edge_distance e))) (old.ways.own p pp) ∙ ap Some (zero_kept (edge_distance e) (loop (sym it.0 ∙ it.1)))
    | inr same ↦ same ∙ old.ways.own p pp
  ]

  begin_kept : (x y : ℕ) → x < points → y < points → x ≢ y → (d : Distance) → t x y ≡ Some d → (f : NetEdge) × Begins 0 (edges ++ e ∷ []) u x y d f
  begin_kept x y xp yp ne d was =
      let b = old.ways.begins x y xp yp ne d was in
      let end : b.0.y ≡ y = elim b.1.inner [ inl s ↦ s | inr lt ↦ absurd (omega arith) ] in
      let none : b.1.rest ≡ zero_distance = same_distance (t y y) b.1.rest zero_distance (subst (λ p. t p y ≡ Some b.1.rest) end b.1.onward) (old.ways.own y yp) in
      let onward : u b.0.y y ≡ Some b.1.rest = subst (λ p. u p y ≡ Some b.1.rest) (sym end) (own_added y yp ∙ ap Some (sym none)) in
      (b.0, record { member = Contains-append_left edges (e ∷ []) b.0 b.1.member; from = b.1.from; inner = inl end; rest = b.1.rest; onward = onward; sum = b.1.sum; count = b.1.count })

  begins_added : (x y : ℕ) → x < points → y < points → x ≢ y → (d : Distance) → u x y ≡ Some d → (f : NetEdge) × Begins 0 (edges ++ e ∷ []) u x y d f
  begins_added x y xp yp ne d is = elim (place x y xp yp) [
    | inr same ↦ begin_kept x y xp yp ne d (sym same ∙ is)
    | inl it ↦ elim (lesser_from (t x y) (edge_distance e)) [
      | inl kept ↦ begin_kept x y xp yp ne d (sym kept ∙ sym (at x y it.0 it.1) ∙ is)
      | inr new ↦
          let one : d ≡ edge_distance e = same_distance (u x y) d (edge_distance e) is (at x y it.0 it.1 ∙ ap Some new) in
          let sum : d.sum ≡ e.most = ap (λ (a : Distance). a.sum) one in
          let count : d.edges ≡ 1 = ap (λ (a : Distance). a.edges) one in (
            e,
            record {
              member = Contains-push edges e;
              from = sym it.0;
              inner = inl (sym it.1);
              rest = zero_distance;
              onward = subst (λ p. u p y ≡ Some zero_distance) it.1 (own_added y yp);
              sum = omega (arith, ints);
              count = omega arith;
            },
          )
    ]
  ]

  direct_added : (f : NetEdge) → Contains (edges ++ e ∷ []) f → HasItsPoints points f → ReachesWithin (u f.x f.y) (edge_cost f)
  direct_added f m p = elim (Contains-push_cases edges e f m) [
    | inl before ↦ keeps f.x f.y p.0 p.1 (edge_cost f) (old.direct f before)
    | inr it ↦
        let one : ReachesWithin (u e.x e.y) (edge_cost e) = subst (λ o. ReachesWithin o (edge_cost e)) (sym here) (let l = lesser_reaches (t e.x e.y) (edge_distance e) in omega (arith, ints)) in
        subst (λ (g : NetEdge). ReachesWithin (u g.x g.y) (edge_cost g)) it one
  ]

  pub added : IsDistanceTable points 0 (edges ++ e ∷ []) u
  added =
      let among_all = All-push (HasItsPoints points) edges e old.ways.among among in
      record {
        ways = record { few = old.ways.few; among = among_all; small = All-push IsSmallEdge edges e old.ways.small small; own = own_added; begins = begins_added };
        direct = λ f m. direct_added f m (All-contains (HasItsPoints points) (edges ++ e ∷ []) f among_all m);
        triangle = λ i x y lt xp yp a b h k. absurd (omega arith);
      }
