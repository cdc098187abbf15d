-- The facts of a tuple and the places of their patterns.
use Rattle.life_laws.proofs.Common.{◌≡◌, ◌⊎◌, ℕ, zero, suc, ◌+◌, true, List, [], ◌∷◌, ◌++◌, length, Option, Some, refl, sym, ◌∙◌, ap, subst, arith, inl, inr}
use Rattle.life_laws.proofs.Common.{slice_get, take, In, Fact, Condition, Plain, Negated, Existing, Folded, Pattern, Program, is_inside, Makes, Snapshot}
use Rattle.life_laws.proofs.{Common.{times_hold, Tuple, empty_tuple, bound_by, bindings, Made, append_assoc}, Basics.{Front, times_grow}, Shifts.{of_counted}}
use Rattle.{life_laws.proofs.Transfers.{front_of, longer, next_place}, fx_base.proofs.Sequences.{In-append}}

-- what a tuple says of the fact that a pattern bound
pub record Stands (p : Program) (s : Snapshot) (tuple : Tuple) (q : Pattern) (x : Fact) : Type 0 where
  pub there : In x s.facts
  pub ty : x.ty.0 ≡ q.ty.0
  pub inside : is_inside p q q.window s.clock s.facts x ≡ true
  pub times : times_hold (bound_by tuple) x.times q.times ≡ true

abbrev pub StandsAt : Program → Snapshot → Tuple → ℕ → Pattern → Type 0
StandsAt p s tuple m q = (x : Fact) × (slice_get tuple.facts m ≡ Some x) × Stands p s tuple q x

module _ (p : Program) (s : Snapshot) (tuple : Tuple) where
  stands_to : (m k : ℕ) (q : Pattern) → m ≡ k → StandsAt p s tuple m q → StandsAt p s tuple k q
  stands_to m k q e h = subst (λ (v : ℕ). StandsAt p s tuple v q) e h

  at_to : (x : Fact) (m k : ℕ) → m ≡ k → slice_get tuple.facts m ≡ Some x → slice_get tuple.facts k ≡ Some x
  at_to x m k e h = subst (λ (v : ℕ). slice_get tuple.facts v ≡ Some x) e h

  same_length : (t next : Tuple) (n : ℕ) → next.facts ≡ t.facts → length next.facts + n ≡ length t.facts + n
  same_length t next n e = ap (λ (fs : List Fact). length fs + n) e

  one_longer : (t next : Tuple) (f : Fact) (n : ℕ) → next.facts ≡ t.facts ++ f ∷ [] → length next.facts + n ≡ length t.facts + suc n
  one_longer t next f n e = omega (arith, longer t next f e)

  same_plain : (q r : Pattern) → ◌≡◌ {A = Option Condition} (Some (Plain q)) (Some (Plain r)) → q ≡ r
  same_plain q r e = cc

  longer_front : (t next : Tuple) (f : Fact) → next.facts ≡ t.facts ++ f ∷ [] → Front next tuple → Front t tuple
  longer_front t next f e front = (f ∷ front.0, front.1 ∙ ap (λ (fs : List Fact). fs ++ front.0) e ∙ append_assoc t.facts (f ∷ []) front.0)

  -- the fact that the pattern of a place bound
  pub stands_at : (cs : List Condition) (t : Tuple) → Makes p s cs t tuple → (k : ℕ) (q : Pattern) → slice_get cs k ≡ Some (Plain q)
      → StandsAt p s tuple (length t.facts + bindings (take k cs)) q
  stands_at [] t h k q at_k = absurd cc
  stands_at (Plain r ∷ cs) t h zero q at_k =
      let e = ap (λ (u : Tuple). u.facts) h.1.2 in
      let front = front_of p s cs h.0 tuple h.2 in
      let m = of_counted p r s t h.1.0 h.1.1 in
      let grown = times_grow r.times h.1.0.times t tuple (longer_front t h.0 h.1.0 e front) m.1.times in
      subst (λ (v : Pattern). StandsAt p s tuple (length t.facts + 0) v) (same_plain r q at_k)
      (stands_to (length t.facts) (length t.facts + 0) r (omega arith)
      (h.1.0, next_place t h.0 tuple h.1.0 e front, record { there = m.0; ty = m.1.ty; inside = m.1.inside; times = grown }))
  stands_at (Plain r ∷ cs) t h (suc k) q at_k =
      stands_to (length h.0.facts + bindings (take k cs)) (length t.facts + suc (bindings (take k cs))) q
      (one_longer t h.0 h.1.0 (bindings (take k cs)) (ap (λ (u : Tuple). u.facts) h.1.2)) (stands_at cs h.0 h.2 k q at_k)
  stands_at (Negated r ∷ cs) t h zero q at_k = absurd cc
  stands_at (Negated r ∷ cs) t h (suc k) q at_k =
      stands_to (length h.0.facts + bindings (take k cs)) (length t.facts + bindings (take k cs)) q
      (same_length t h.0 (bindings (take k cs)) (ap (λ (u : Tuple). u.facts) h.1.2)) (stands_at cs h.0 h.2 k q at_k)
  stands_at (Existing r ∷ cs) t h zero q at_k = absurd cc
  stands_at (Existing r ∷ cs) t h (suc k) q at_k =
      stands_to (length h.0.facts + bindings (take k cs)) (length t.facts + bindings (take k cs)) q
      (same_length t h.0 (bindings (take k cs)) (ap (λ (u : Tuple). u.facts) h.1.2)) (stands_at cs h.0 h.2 k q at_k)
  stands_at (Folded a ∷ cs) t h zero q at_k = absurd cc
  stands_at (Folded a ∷ cs) t h (suc k) q at_k =
      stands_to (length h.0.facts + bindings (take k cs)) (length t.facts + bindings (take k cs)) q
      (same_length t h.0 (bindings (take k cs)) (ap (λ (u : Tuple). u.facts) h.1.3)) (stands_at cs h.0 h.2 k q at_k)

  -- the place of the pattern that bound a fact
  abbrev pub HasPlace : List Condition → ℕ → Fact → Type 0
  HasPlace cs m x = (k : ℕ) × (q : Pattern) × (slice_get cs k ≡ Some (Plain q)) × (slice_get tuple.facts (m + bindings (take k cs)) ≡ Some x)

  early : (t next : Tuple) (x : Fact) → next.facts ≡ t.facts → In x next.facts → In x t.facts
  early t next x e h = subst (λ (fs : List Fact). In x fs) e h

  pub place_of : (cs : List Condition) (t : Tuple) → Makes p s cs t tuple → (x : Fact) → In x tuple.facts → In x t.facts ⊎ HasPlace cs (length t.facts) x
  place_of [] t h x i = inl (subst (λ (u : Tuple). In x u.facts) h i)
  place_of (Plain r ∷ cs) t h x i =
      let e = ap (λ (u : Tuple). u.facts) h.1.2 in
      elim (place_of cs h.0 h.2 x i) [
        | inl j ↦ elim (In-append x t.facts (h.1.0 ∷ []) (subst (λ (fs : List Fact). In x fs) e j)) [
          | inl before ↦ inl before
          | inr (inl is) ↦ inr (
            0,
            r,
            refl,
            at_to x (length t.facts) (length t.facts + 0) (omega arith)
                (next_place t h.0 tuple h.1.0 e (front_of p s cs h.0 tuple h.2) ∙ ap Some (sym is)),
          )
          | inr (inr none) ↦ absurd none
        ]
        | inr q ↦ inr (
          suc q.0,
          q.1,
          q.2,
          at_to x (length h.0.facts + bindings (take q.0 cs)) (length t.facts + suc (bindings (take q.0 cs)))
              (one_longer t h.0 h.1.0 (bindings (take q.0 cs)) e) q.3,
        )
      ]
  place_of (Negated r ∷ cs) t h x i =
      let e = ap (λ (u : Tuple). u.facts) h.1.2 in
      elim (place_of cs h.0 h.2 x i) [
        | inl j ↦ inl (early t h.0 x e j)
        | inr q ↦ inr (suc q.0, q.1, q.2, at_to x (length h.0.facts + bindings (take q.0 cs)) (length t.facts + bindings (take q.0 cs)) (same_length t h.0 (bindings (take q.0 cs)) e) q.3)
      ]
  place_of (Existing r ∷ cs) t h x i =
      let e = ap (λ (u : Tuple). u.facts) h.1.2 in
      elim (place_of cs h.0 h.2 x i) [
        | inl j ↦ inl (early t h.0 x e j)
        | inr q ↦ inr (suc q.0, q.1, q.2, at_to x (length h.0.facts + bindings (take q.0 cs)) (length t.facts + bindings (take q.0 cs)) (same_length t h.0 (bindings (take q.0 cs)) e) q.3)
      ]
  place_of (Folded a ∷ cs) t h x i =
      let e = ap (λ (u : Tuple). u.facts) h.1.3 in
      elim (place_of cs h.0 h.2 x i) [
        | inl j ↦ inl (early t h.0 x e j)
        | inr q ↦ inr (suc q.0, q.1, q.2, at_to x (length h.0.facts + bindings (take q.0 cs)) (length t.facts + bindings (take q.0 cs)) (same_length t h.0 (bindings (take q.0 cs)) e) q.3)
      ]

  -- a fact of the tuple, the place of its pattern and what is said of it
  pub record Standing (cs : List Condition) (x : Fact) : Type 0 where
    pub place : ℕ
    pub pattern : Pattern
    pub placed : slice_get cs place ≡ Some (Plain pattern)
    pub at_place : slice_get tuple.facts (bindings (take place cs)) ≡ Some x
    pub stands : Stands p s tuple pattern x

  pub standing : (cs : List Condition) (x : Fact) → Made p s cs tuple → In x tuple.facts → Standing cs x
  standing cs x h i =
      elim (place_of cs empty_tuple h x i) [
        | inl none ↦ absurd none
        | inr q ↦
            let m : 0 + bindings (take q.0 cs) ≡ bindings (take q.0 cs) = omega arith in
            let at_x = at_to x (0 + bindings (take q.0 cs)) (bindings (take q.0 cs)) m q.3 in
            let r = stands_to (0 + bindings (take q.0 cs)) (bindings (take q.0 cs)) q.1 m (stands_at cs empty_tuple h q.0 q.1 q.2) in
            let both : Some r.0 ≡ Some x = sym r.1 ∙ at_x in
            let e : r.0 ≡ x = cc in
            record { place = q.0; pattern = q.1; placed = q.2; at_place = at_x; stands = subst (λ (v : Fact). Stands p s tuple q.1 v) e r.2 }
      ]
