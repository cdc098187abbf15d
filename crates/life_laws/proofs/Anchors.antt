-- An event past its life, in a tuple or beside one: every condition is settled there.
use Rattle.life_laws.proofs.Common.{◌≡◌, ◌==◌, ℕ, suc, ◌+◌, ℤ, ◌+ℤ◌, ◌-ℤ◌, ◌≤ℤ◌, ◌<ℤ◌, Bool, true, false, cond, List, [], ◌∷◌, Some, refl, sym, ap, subst, ◌∙◌}
use Rattle.life_laws.proofs.Common.{arith, inl, inr, slice_get, take, ints, Fact, Times, Condition, Plain, Negated, Existing, Folded, Pattern, Program}
use Rattle.life_laws.proofs.Common.{IsPossible, pattern_of, Tuple, bound_by, is_event, is_reference, is_observed, bindings, binds, Placed, SolvesWith}
use Rattle.life_laws.proofs.{Common.{occurrence_of}, Flagged.{Steady}, Still.{Settled, Still, old, steady}, Shifts.{Aged, Calm, aged, fixed}}
use Rattle.{life_laws.proofs.Transfers.{AllAged}, std.proofs.lemmas.Bool.{eq-eqb, ne_eqb}, life_meaning.proofs.Limits.{Limits, times_of, HasBound, solves_of}}

-- condition i has an event with the times z that is past its life of n at c
pub record Anchor (p : Program) (c n : ℤ) (cs : List Condition) (i : Placed) (t : Tuple) (z : Times) : Type 0 where
  pub limits : Limits p cs i n
  pub on_bound : (k : ℕ) (q : Pattern) → slice_get cs k ≡ Some (Plain q) → is_event p q.ty.0 ≡ true → HasBound p cs t k q
  pub own : (k : ℕ) (d : Condition) → slice_get cs k ≡ Some d → binds d ≡ false → k ≡ i.place → IsPossible p (pattern_of d) (bound_by t) z
  pub there : (sides : ℕ → Times) → sides i.place ≡ z → times_of t.facts sides (occurrence_of cs i) ≡ z
  pub observed : (k : ℕ) (d : Condition) → slice_get cs k ≡ Some d → binds d ≡ false → is_event p (pattern_of d).ty.0 ≡ true → is_observed p (pattern_of d).ty.0 ≡ true
  pub past_life : (z.end +ℤ n) <ℤ c
  pub steadies : (j : Placed) → slice_get cs j.place ≡ Some j.condition → is_reference p (pattern_of j.condition).ty.0 ≡ true → Steady p (pattern_of j.condition)

one_there : (cs : List Condition) (k j : ℕ) (d e : Condition) → slice_get cs k ≡ Some d → slice_get cs j ≡ Some e → k ≡ j → d ≡ e
one_there cs k j d e at_k at_j same =
    let a : slice_get cs j ≡ Some d = ap (slice_get cs) (sym same) ∙ at_k in
    let b : Some d ≡ Some e = sym a ∙ at_j in
    cc

plain_not : (q : Pattern) (d : Condition) → d ≡ Plain q → binds d ≡ false → ⊥
plain_not q d e f = let g : true ≡ false = ap binds (sym e) ∙ f in absurd cc

choose : (b : Bool) (z y : Times) → b ≡ true → cond b z y ≡ z
choose true z y e = refl
choose false z y e = absurd cc

choose_not : (b : Bool) (z y : Times) → b ≡ false → cond b z y ≡ y
choose_not true z y e = absurd cc
choose_not false z y e = refl

-- a condition is settled: one that binds a fact at the tuple's fact of this number, another at each possible event
abbrev pub AgedAt : Program → ℤ → Tuple → ℕ → Condition → Type 0
AgedAt p c t m (Plain q) = (f : Fact) → slice_get t.facts m ≡ Some f → Still p c q f.times
AgedAt p c t m (Negated q) = Calm p c q t
AgedAt p c t m (Existing q) = Calm p c q t
AgedAt p c t m (Folded a) = Calm p c a.pattern t

module _ (p : Program) (c n : ℤ) (cs : List Condition) (i : Placed) (t : Tuple) (z : Times) (anchor : Anchor p c n cs i t z) where
  -- condition j is settled at the times y that it has in a solution
  settled : (sides : ℕ → Times) (j : Placed) (y : Times) → slice_get cs j.place ≡ Some j.condition → is_reference p (pattern_of j.condition).ty.0 ≡ false → sides i.place ≡ z
      → times_of t.facts sides (occurrence_of cs j) ≡ y → SolvesWith p cs i j (times_of t.facts sides) → Settled p c (pattern_of j.condition) y
  settled sides j y at_j changes is_z is_y s =
      let l = anchor.limits.limited j at_j changes (times_of t.facts sides) s in
      let d : ((y.start -ℤ z.end) +ℤ l.0) ≤ℤ n =
      subst (λ (v : Times). ((y.start -ℤ v.end) +ℤ l.0) ≤ℤ n) (anchor.there sides is_z)
      (subst (λ (v : Times). ((v.start -ℤ (times_of t.facts sides (occurrence_of cs i)).end) +ℤ l.0) ≤ℤ n) is_y l.2) in
      let o = anchor.past_life in
      (l.0, l.1, omega (arith, ints))

  settled_bound : (j : ℕ) (q : Pattern) (f : Fact) → slice_get cs j ≡ Some (Plain q) → is_reference p q.ty.0 ≡ false → slice_get t.facts (bindings (take j cs)) ≡ Some f → Settled p c q f.times
  settled_bound j q f at_j changes is_f =
      settled (λ k. z) (record { place = j; condition = Plain q }) f.times at_j changes refl (rw is_f refl)
      (solves_of p cs i.place j t (λ k. z) anchor.on_bound (λ k d at_k side_k. λ where_k. elim where_k [
        | inl e ↦ anchor.own k d at_k side_k e
        | inr e ↦ absurd (plain_not q d (one_there cs k j d (Plain q) at_k at_j e) side_k)
      ]))

  aged_side : (j : ℕ) (d : Condition) → slice_get cs j ≡ Some d → is_reference p (pattern_of d).ty.0 ≡ false → binds d ≡ false → (j ≡ i.place → ⊥)
      → ((y : Times) (sides : ℕ → Times) → sides j ≡ y → times_of t.facts sides (occurrence_of cs (record { place = j; condition = d })) ≡ y) → Aged p c (pattern_of d) t
  aged_side j d at_j changes side_j apart stands =
      let event = anchor.limits.events (record { place = j; condition = d }) at_j changes in
      record {
        event = event;
        observed = anchor.observed j d at_j side_j event;
        old = λ y h.
            let sides = λ (k : ℕ). cond (k == i.place) z y in
            let at_z : sides i.place ≡ z = choose (i.place == i.place) z y (eq-eqb i.place i.place refl) in
            let at_y : sides j ≡ y = choose_not (j == i.place) z y (ne_eqb j i.place apart) in
            settled sides (record { place = j; condition = d }) y at_j changes at_z (stands y sides at_y)
            (solves_of p cs i.place j t sides anchor.on_bound (λ k e at_k side_k. λ where_k. elim where_k [
              | inl is_i ↦ subst (λ (v : Times). IsPossible p (pattern_of e) (bound_by t) v) (sym (choose (k == i.place) z y (eq-eqb k i.place is_i))) (anchor.own k e at_k side_k is_i)
              | inr is_j ↦ subst (λ (v : Times). IsPossible p (pattern_of e) (bound_by t) v) (sym (ap sides is_j ∙ at_y))
                  (subst (λ (q : Condition). IsPossible p (pattern_of q) (bound_by t) y) (sym (one_there cs k j e d at_k at_j is_j)) h)
            ]));
      }

  still_bound : (j : ℕ) (q : Pattern) (f : Fact) → slice_get cs j ≡ Some (Plain q) → slice_get t.facts (bindings (take j cs)) ≡ Some f → Still p c q f.times
  still_bound j q f at_j is_f = by (is_reference p q.ty.0) refl
    where
      by : (b : Bool) → is_reference p q.ty.0 ≡ b → Still p c q f.times
      by true e = steady (anchor.steadies (record { place = j; condition = Plain q }) at_j e)
      by false e = old (anchor.limits.events (record { place = j; condition = Plain q }) at_j e) (settled_bound j q f at_j e is_f)

  calm_side : (j : ℕ) (d : Condition) → slice_get cs j ≡ Some d → binds d ≡ false → (j ≡ i.place → ⊥)
      → ((y : Times) (sides : ℕ → Times) → sides j ≡ y → times_of t.facts sides (occurrence_of cs (record { place = j; condition = d })) ≡ y) → Calm p c (pattern_of d) t
  calm_side j d at_j side_j apart stands = by (is_reference p (pattern_of d).ty.0) refl
    where
      by : (b : Bool) → is_reference p (pattern_of d).ty.0 ≡ b → Calm p c (pattern_of d) t
      by true e = fixed (anchor.steadies (record { place = j; condition = d }) at_j e)
      by false e = aged (aged_side j d at_j e side_j apart stands)

  pub aged_at : (j : ℕ) (d : Condition) → slice_get cs j ≡ Some d → (binds d ≡ false → j ≡ i.place → ⊥) → AgedAt p c t (bindings (take j cs)) d
  aged_at j (Plain q) at_j apart = λ f is_f. still_bound j q f at_j is_f
  aged_at j (Negated q) at_j apart = calm_side j (Negated q) at_j refl (apart refl) (λ y sides e. e)
  aged_at j (Existing q) at_j apart = calm_side j (Existing q) at_j refl (apart refl) (λ y sides e. e)
  aged_at j (Folded a) at_j apart = calm_side j (Folded a) at_j refl (apart refl) (λ y sides e. e)

-- ---- all conditions of a list

module _ (p : Program) (c : ℤ) (t : Tuple) where
  moved_to : (m k : ℕ) (d : Condition) → m ≡ k → AgedAt p c t m d → AgedAt p c t k d
  moved_to m k d e h = subst (λ (v : ℕ). AgedAt p c t v d) e h

  pub all_aged : (cs : List Condition) (m : ℕ) → ((k : ℕ) (d : Condition) → slice_get cs k ≡ Some d → AgedAt p c t (m + bindings (take k cs)) d) → AllAged p c t m cs
  all_aged [] m h = tt
  all_aged (Plain q ∷ cs) m h =
      let here = moved_to (m + 0) m (Plain q) (omega arith) (h 0 (Plain q) refl) in
      (here, all_aged cs (suc m) (λ k d at_k. moved_to (m + suc (bindings (take k cs))) (suc m + bindings (take k cs)) d (omega arith) (h (suc k) d at_k)))
  all_aged (Negated q ∷ cs) m h = (h 0 (Negated q) refl, all_aged cs m (λ k d at_k. h (suc k) d at_k))
  all_aged (Existing q ∷ cs) m h = (h 0 (Existing q) refl, all_aged cs m (λ k d at_k. h (suc k) d at_k))
  all_aged (Folded a ∷ cs) m h = (h 0 (Folded a) refl, all_aged cs m (λ k d at_k. h (suc k) d at_k))
