-- What comes in a step names only what is kept.
use Rattle.life_laws.proofs.Common.{◌≡◌, ◌==◌, ◌&&◌, ◌⊎◌, not, ℤ, ◌+ℤ◌, ◌≤ℤ◌, Bool, true, false, List, [], ◌∷◌, Option, Some, None, refl, sym, ap, subst, arith}
use Rattle.life_laws.proofs.Common.{inl, inr, slice_get, take, ints, In, Fact, Condition, Plain, Negated, Existing, Folded, Life, Explicit, Finite, Infinite}
use Rattle.life_laws.proofs.Common.{LifeTable, Program, Step, Insert, Modify, Retract, Advance, At, Promise, Begin, is_present, Makes, pattern_of, Snapshot}
use Rattle.life_laws.proofs.Common.{Tuple, empty_tuple, passed, World, snapshot, has_id, was_present, stays, finite, IsLife, Made, KeepsTuple, AreSafe, IsKept}
use Rattle.{life_laws.proofs.Common.{plain, unexpired, endless, living, TupleNamesKept, TupleMeetsKept}, std.proofs.lemmas.Bool.{and_from, eq-eqb}}
use Rattle.rule_model.specs.declared.life.Life.TheVariants as lives
use Rattle.{rule_world.specs.Worlds.{moved}, life_meaning.proofs.Safe.{plain_unlisted}, life_laws.proofs.{Shifts.{of_counted}, Moves.{clock_on}}}
use Rattle.{life_laws.proofs.Laws.{of_rule, of_prefix}, fx_base.proofs.Sequences.{In-append}}

-- ---- the facts of a tuple

-- a fact of the snapshot that is present
abbrev pub Here : Program → Snapshot → Fact → Type 0
Here p s x = In x s.facts × (is_present p s.clock x ≡ true)

module _ (p : Program) (s : Snapshot) (tuple : Tuple) where
  -- what conditions add to a tuple is there and present
  added : (cs : List Condition) (t : Tuple) → Makes p s cs t tuple → (x : Fact) → In x tuple.facts → In x t.facts ⊎ Here p s x
  added [] t h x i = inl (subst (λ (u : Tuple). In x u.facts) h i)
  added (Plain q ∷ cs) t h x i = elim (added cs h.0 h.2 x i) [
    | inl j ↦ elim (In-append x t.facts (h.1.0 ∷ []) (subst (λ (u : Tuple). In x u.facts) h.1.2 j)) [
      | inl before ↦ inl before
      | inr (inl e) ↦ (let k = of_counted p q s t h.1.0 h.1.1 in inr (subst (λ (y : Fact). Here p s y) (sym e) (k.0, k.1.present)))
      | inr (inr none) ↦ absurd none
    ]
    | inr here ↦ inr here
  ]
  added (Negated q ∷ cs) t h x i = elim (added cs h.0 h.2 x i) [
    | inl j ↦ inl (subst (λ (u : Tuple). In x u.facts) h.1.2 j)
    | inr here ↦ inr here
  ]
  added (Existing q ∷ cs) t h x i = elim (added cs h.0 h.2 x i) [
    | inl j ↦ inl (subst (λ (u : Tuple). In x u.facts) h.1.2 j)
    | inr here ↦ inr here
  ]
  added (Folded a ∷ cs) t h x i = elim (added cs h.0 h.2 x i) [
    | inl j ↦ inl (subst (λ (u : Tuple). In x u.facts) (ap (λ (u : Tuple). record { facts = u.facts; values = t.values }) h.1.3) j)
    | inr here ↦ inr here
  ]

  pub here : (cs : List Condition) → Made p s cs tuple → (x : Fact) → In x tuple.facts → Here p s x
  here cs h x i = elim (added cs empty_tuple h x i) [ inl none ↦ absurd none | inr is ↦ is ]

kept_not : (b : Bool) → not b ≡ true → b ≡ true → ⊥
kept_not true k e = absurd cc
kept_not false k e = absurd cc

-- a tuple that is made behind the step has no fact that the step retracts
pub keeps_next : (p : Program) (w : World) (step : Step) (cs : List Condition) (tuple : Tuple) → Made p (snapshot (moved p w step)) cs tuple → KeepsTuple step tuple
unfolding moved
keeps_next p w (Insert ty entry fields) cs tuple h = tt
keeps_next p w (Modify id sets) cs tuple h = tt
keeps_next p w (Retract ty id) cs tuple h = λ f own of_type of_id.
    let there = here p (snapshot (moved p w (Retract ty id))) tuple cs h f own in
    kept_not (is_present p w.clock f && (f.ty.0 == ty.0 && has_id id.0 f)) (passed (stays p w.clock ty.0 id.0) f w.facts there.0)
    (and_from _ _ there.1 (and_from _ _ (eq-eqb f.ty.0 ty.0 of_type) (eq-eqb f.id.0 id.0 of_id)))
keeps_next p w (Advance by) cs tuple h = tt
keeps_next p w (At moment) cs tuple h = tt
keeps_next p w (Promise entry from) cs tuple h = tt
keeps_next p w Begin cs tuple h = tt

-- ---- what the table says of a fact

longer : (clock end m n : ℤ) → clock ≤ℤ (end +ℤ m) → m ≤ℤ n → clock ≤ℤ (end +ℤ n)
longer clock end m n h k = omega (arith, ints)

module _ (p : Program) (table : LifeTable) (w : World) (are : AreSafe p table) (f : Fact) (inside : In f w.facts) where
  -- a present fact is kept where it is so once it is past a finite life
  pub by_life : is_present p w.clock f ≡ true → ((n : ℤ) → IsLife p f.ty.0 (finite n) → (w.clock ≤ℤ (f.times.end +ℤ n)) ⊎ IsKept p table w f) → IsKept p table w f
  by_life present late = by (slice_get table.lives f.ty.0) refl
    where
      by : (life : Option Life) → slice_get table.lives f.ty.0 ≡ life → IsKept p table w f
      by None e = plain inside (plain_unlisted p table f.ty.0 are e)
      by (Some lives.Plain) e = plain inside (are.each f.ty.0 lives.Plain e)
      by (Some (Explicit expiry)) e = let is = are.each f.ty.0 (Explicit expiry) e in unexpired expiry inside is.0 is.1 present
      by (Some (Finite n)) e =
          let life = are.each f.ty.0 (Finite n) e in
          elim (late life.0 life.1) [ inl le ↦ living n inside e (longer w.clock f.times.end life.0 n le life.2) | inr kept ↦ kept ]
      by (Some Infinite) e = endless inside e

-- ---- tuples that come

pub tuple_names_kept : TupleNamesKept
tuple_names_kept p table w step flagged are law none rule in_rules tuple comes f own inside =
    let next = snapshot (moved p w step) in
    let keeps = keeps_next p w step rule.conditions tuple comes.0 in
    by_life p table w are f inside
    (was_present p f w.clock next.clock (clock_on p w step none) (here p next tuple rule.conditions comes.0 f own).1)
    (λ n life. inl (of_rule p w step flagged law none rule in_rules tuple keeps (inr comes) f own n life))

pub tuple_meets_kept : TupleMeetsKept
tuple_meets_kept p table w step flagged are law none rule in_rules q c at_q side_q tuple comes f passes inside =
    let next = snapshot (moved p w step) in
    let keeps = keeps_next p w step (take q rule.conditions) tuple comes.0 in
    by_life p table w are f inside
    (was_present p f w.clock next.clock (clock_on p w step none) (of_counted p (pattern_of c) next tuple f passes).1.present)
    (λ n life. inl (of_prefix p w step flagged law none rule in_rules tuple keeps q c at_q side_q (inr comes) f passes n life))
