-- What is forgotten stays forgotten, by steps and by firings.
use Rattle.kept_laws.proofs.Common.{◌≡◌, ◌∙◌, ◌||◌, not, Bool, true, false, inl, inr, ◌∷◌, Option, Some, None, refl, sym, ap, subst, slice_get, In, Fact, Named}
use Rattle.kept_laws.proofs.Common.{LifeTable, Match, Program, Step, name_of, or_split, of_filter, in_filter, passed, IsOrdered, World, snapshot, pending}
use Rattle.kept_laws.proofs.Common.{marked, version_at, has_name, held, is_alive, is_pending_named, is_lost, IsLawfulStep, same_fact, step_in_order}
use Rattle.{kept_laws.proofs.Common.{false_from_ne_true, or_left, or_right, list_any-from, list_any-In}, rule_world.specs.Worlds.{stepped}}
use Rattle.kept_meaning.{specs.Kept.{is_kept, is_forgotten}, proofs.{Decided.{is_so, is_tested}, Versions.{lost, forgotten_fact}}}
use Rattle.{std.specs.Ordering.{eq_by_cmp}, rule_model.specs.Matches.{matches, match_cmp, has_match}, life_laws.proofs.Remains.{kept_before}}

-- what is not kept is forgotten, of a world in order
not_kept_is_forgotten : (p : Program) (table : LifeTable) (w : World) → IsOrdered p w → (f : Fact) → In f w.facts → is_kept p table w f ≡ false → is_forgotten p table w (name_of f) ≡ true
not_kept_is_forgotten p table w o f i e = forgotten_fact p table w o.tags f i ∙ ap not e

-- ---- steps

module _ (p : Program) (table : LifeTable) (w : World) (step : Step) (given : IsLawfulStep p table w step) where
  pub was_kept : (f : Fact) → In f w.facts → In f (stepped p w step).facts → is_kept p table (stepped p w step) f ≡ true → is_kept p table w f ≡ true
  was_kept f i j e = is_tested p table w given.safe f (kept_before p table w step given.flagged given.operators given.safe given.lawful given.faultless f (is_so p table (stepped p w step) given.safe f j e) i)

  same_behind : (f g : Fact) → In g w.facts → In f (stepped p w step).facts → name_of f ≡ name_of g → f ≡ g
  unfolding stepped
  same_behind f g i j e = same_fact p w step given.lawful.ordered g f i j e

  pub still_forgotten : (f : Fact) → is_forgotten p table w (name_of f) ≡ true → In f (stepped p w step).facts → is_forgotten p table (stepped p w step) (name_of f) ≡ true
  still_forgotten f forgotten j =
      let g = lost p table w (name_of f) forgotten in
      let same = same_behind f g.fact g.inside j (sym g.named) in
      let inside = subst (λ (x : Fact). In x w.facts) (sym same) g.inside in
      not_kept_is_forgotten p table (stepped p w step) (step_in_order p w step given.lawful.ordered) f j
      (false_from_ne_true (is_kept p table (stepped p w step) f) (λ e.
      let n : true ≡ false = sym (was_kept f inside j e) ∙ ap (is_kept p table w) same ∙ g.not_kept in
      absurd cc))

-- ---- firings

module _ (p : Program) (table : LifeTable) (w : World) (m : Match) where
  unfired : (n : Match) → not (has_match (m ∷ w.fired) n) ≡ true → not (has_match w.fired n) ≡ true
  unfired n e = by (eq_by_cmp match_cmp n m) (has_match w.fired n) e
    where
      by : (a b : Bool) → not (a || b) ≡ true → not b ≡ true
      by true b e = absurd (let n : false ≡ true = e in cc)
      by false b e = e

  was_pending : (n : Match) → In n (pending p (marked w m)) → In n (pending p w)
  was_pending n i =
      in_filter (λ (q : Match). not (has_match w.fired q)) n (matches p (snapshot w))
      (unfired n (passed (λ (q : Match). not (has_match (m ∷ w.fired) q)) n (matches p (snapshot w)) i))
      (of_filter (λ (q : Match). not (has_match (m ∷ w.fired) q)) n (matches p (snapshot w)) i)

  was_named : (f : Fact) → is_pending_named p (marked w m) f ≡ true → is_pending_named p w f ≡ true
  was_named f e =
      let n = list_any-In (λ (q : Match). has_name q.row.facts (name_of f)) (pending p (marked w m)) e in
      list_any-from (λ (q : Match). has_name q.row.facts (name_of f)) n.0 (pending p w) (was_pending n.0 n.1) n.2

  pub kept_unfired : (f : Fact) → is_kept p table (marked w m) f ≡ true → is_kept p table w f ≡ true
  unfolding is_kept
  kept_unfired f e = elim (or_split (is_alive p (slice_get table.lives f.ty.0) w.clock f) (is_pending_named p (marked w m) f) e) [
    | inl alive ↦ or_left (is_alive p (slice_get table.lives f.ty.0) w.clock f) (is_pending_named p w f) alive
    | inr own ↦ or_right (is_alive p (slice_get table.lives f.ty.0) w.clock f) (is_pending_named p w f) (was_named f own)
  ]

  flipped : (a b : Bool) → (b ≡ true → a ≡ true) → not a ≡ true → not b ≡ true
  flipped true b h e = absurd (let n : false ≡ true = e in cc)
  flipped false true h e = absurd (let n : false ≡ true = h refl in cc)
  flipped false false h e = refl

  lost_fired : (there : Option Fact) → is_lost p table w there ≡ true → is_lost p table (marked w m) there ≡ true
  lost_fired None e = e
  lost_fired (Some f) e = flipped (is_kept p table w f) (is_kept p table (marked w m) f) (kept_unfired f) e

  pub forgotten_fired : (who : Named) → is_forgotten p table w who ≡ true → is_forgotten p table (marked w m) who ≡ true
  unfolding is_forgotten
  forgotten_fired who e = lost_fired (version_at (held (snapshot w)) who) e
