-- The test of what is kept is true exactly of what is kept.
use Rattle.kept_meaning.proofs.Common.{◌≡◌, ◌↔◌, ◌∙◌, ℤ, ◌+ℤ◌, true, false, Option, Some, None, inl, inr, refl, sym, ap, slice_get, In, Fact, Life, Plain}
use Rattle.kept_meaning.proofs.Common.{Explicit, Finite, Infinite, LifeTable, Match, Program, name_of, is_event, expiry_of, or_split, of_filter, in_filter}
use Rattle.kept_meaning.proofs.Common.{passed, World, pending, AreSafe, IsKept, plain, unexpired, endless, living, named, has_name, is_alive, is_pending_named}
use Rattle.kept_meaning.{proofs.Common.{kept_facts, in_name, name_in, or_left, or_right, list_any-from, list_any-In}, specs.Kept.{is_kept}}
use Rattle.{rule_model.proofs.RuleOf.{in_has, has_in}, life_meaning.proofs.Safe.{plain_unlisted}, fx_base.proofs.{Tests.{or_first_false}, Orders.{int_le-true}}}
use Rattle.fx_base.proofs.Orders.{le-int_le}

-- what is kept is a fact of the world
pub kept_inside : (p : Program) (table : LifeTable) (w : World) (f : Fact) → IsKept p table w f → In f w.facts
kept_inside p table w f (plain i e) = i
kept_inside p table w f (unexpired expiry i event expires present) = i
kept_inside p table w f (endless i e) = i
kept_inside p table w f (living n i e le) = i
kept_inside p table w f (named m i is own) = i

module _ (p : Program) (table : LifeTable) (w : World) (are : AreSafe p table) (f : Fact) where
  -- ---- what passes the test is kept

  by_life : In f w.facts → (life : Option Life) → slice_get table.lives f.ty.0 ≡ life → is_alive p life w.clock f ≡ true → IsKept p table w f
  by_life i None e h = plain i (plain_unlisted p table f.ty.0 are e)
  by_life i (Some Plain) e h = plain i (are.each f.ty.0 Plain e)
  by_life i (Some (Explicit expiry)) e h = let is = are.each f.ty.0 (Explicit expiry) e in unexpired expiry i is.0 is.1 h
  by_life i (Some (Finite n)) e h = living n i e (int_le-true w.clock (f.times.end +ℤ n) h)
  by_life i (Some Infinite) e h = endless i e

  by_name : In f w.facts → is_pending_named p w f ≡ true → IsKept p table w f
  by_name i h =
      let m = list_any-In (λ (n : Match). has_name n.row.facts (name_of f)) (pending p w) h in
      named m.0 i (has_in m.0 (pending p w) m.1) (name_in (name_of f) m.0.row.facts m.2)

  pub is_so : In f w.facts → is_kept p table w f ≡ true → IsKept p table w f
  unfolding is_kept
  is_so i h = elim (or_split (is_alive p (slice_get table.lives f.ty.0) w.clock f) (is_pending_named p w f) h) [
    | inl alive ↦ by_life i (slice_get table.lives f.ty.0) refl alive
    | inr own ↦ by_name i own
  ]

  -- ---- what is kept passes the test

  abbrev Alive : Option Life → Type 0
  Alive life = is_alive p life w.clock f ≡ true

  of_plain : is_event p f.ty.0 ≡ false → (life : Option Life) → slice_get table.lives f.ty.0 ≡ life → Alive life
  of_plain e None at = refl
  of_plain e (Some Plain) at = refl
  of_plain e (Some (Explicit expiry)) at = let n : true ≡ false = sym (are.each f.ty.0 (Explicit expiry) at).0 ∙ e in absurd cc
  of_plain e (Some (Finite n)) at = let n : true ≡ false = sym (are.each f.ty.0 (Finite n) at).1.event ∙ e in absurd cc
  of_plain e (Some Infinite) at = refl

  of_expiring : (expiry : ℤ) → expiry_of p f.ty.0 ≡ Some expiry → Alive (Some (Explicit expiry)) → (life : Option Life) → slice_get table.lives f.ty.0 ≡ life → Alive life
  of_expiring expiry e h None at = refl
  of_expiring expiry e h (Some Plain) at = refl
  of_expiring expiry e h (Some (Explicit other)) at = h
  of_expiring expiry e h (Some (Finite n)) at = let n : None ≡ Some expiry = sym (are.each f.ty.0 (Finite n) at).1.unexpired ∙ e in absurd cc
  of_expiring expiry e h (Some Infinite) at = refl

  alive : Alive (slice_get table.lives f.ty.0) → is_kept p table w f ≡ true
  unfolding is_kept
  alive h = or_left (is_alive p (slice_get table.lives f.ty.0) w.clock f) (is_pending_named p w f) h

  pub is_tested : IsKept p table w f → is_kept p table w f ≡ true
  unfolding is_kept
  is_tested (plain i e) = alive (of_plain e (slice_get table.lives f.ty.0) refl)
  is_tested (unexpired expiry i event expires present) = alive (of_expiring expiry expires present (slice_get table.lives f.ty.0) refl)
  is_tested (endless i e) = alive (ap (λ life. is_alive p life w.clock f) e)
  is_tested (living n i e le) = alive (ap (λ life. is_alive p life w.clock f) e ∙ le-int_le w.clock (f.times.end +ℤ n) le)
  is_tested (named m i is own) =
      or_right (is_alive p (slice_get table.lives f.ty.0) w.clock f) (is_pending_named p w f)
      (list_any-from (λ (n : Match). has_name n.row.facts (name_of f)) m (pending p w) (in_has (pending p w) m is) (in_name (name_of f) m.row.facts own))

  pub kept_decided : In f w.facts → (is_kept p table w f ≡ true) ↔ IsKept p table w f
  kept_decided i = (is_so i, is_tested)

  pub kept_listed : In f (kept_facts p table w) ↔ IsKept p table w f
  kept_listed = (
    λ i. is_so (of_filter (is_kept p table w) f w.facts i) (passed (is_kept p table w) f w.facts i),
    λ k. in_filter (is_kept p table w) f w.facts (is_tested k) (kept_inside p table w f k),
  )

-- ---- what is not kept

module _ (p : Program) (table : LifeTable) (w : World) (are : AreSafe p table) where
  pub not_alive : (f : Fact) → is_kept p table w f ≡ false → is_alive p (slice_get table.lives f.ty.0) w.clock f ≡ false
  unfolding is_kept
  not_alive f e = or_first_false (is_alive p (slice_get table.lives f.ty.0) w.clock f) (is_pending_named p w f) e

  -- what is not kept is an event
  event_by : (f : Fact) (life : Option Life) → slice_get table.lives f.ty.0 ≡ life → is_alive p life w.clock f ≡ false → is_event p f.ty.0 ≡ true
  event_by f None at e = absurd (let n : true ≡ false = e in cc)
  event_by f (Some Plain) at e = absurd (let n : true ≡ false = e in cc)
  event_by f (Some (Explicit expiry)) at e = (are.each f.ty.0 (Explicit expiry) at).0
  event_by f (Some (Finite n)) at e = (are.each f.ty.0 (Finite n) at).1.event
  event_by f (Some Infinite) at e = absurd (let n : true ≡ false = e in cc)

  pub lost_event : (f : Fact) → is_kept p table w f ≡ false → is_event p f.ty.0 ≡ true
  lost_event f e = event_by f (slice_get table.lives f.ty.0) refl (not_alive f e)
