-- What was forgotten and fits a pattern has a finite life.
use Rattle.image_change.proofs.Common.{AreSafe, Condition, Explicit, Fact, Finite, In, Infinite, IsLawful, Life, LifeTable, None, Option, Pattern, Program}
use Rattle.image_change.proofs.Common.{Rule, Some, World, and_parts, false, false_from_ne_true, fits, forgotten_fact, is_alive, name_of, pattern_of, refl}
use Rattle.{image_change.proofs.Common.{slice_get, sym, true, ℕ, ℤ, ◌&&◌, ◌==◌, ◌∙◌, ◌≡◌}, kept_meaning.{proofs.Decided.{not_alive}, specs.Kept.{is_forgotten}}}
use Rattle.{kept_meaning.specs.Kept.{is_kept}, life_meaning.{proofs.Limits.{lives_below}, specs.Reach.{infinite}}, rule_model.specs.Candidates.{is_present}}
use Rattle.rule_model.specs.{Tests.{tests_hold}, Tuples.{unbound}, declared.{condition.WindowTag.TheVariants.{Length}, life.Life.TheVariants.{Plain}}}
use Rattle.{rule_world.specs.Worlds.{present}, std.proofs.lemmas.Bool.{eqb-true, not-true}}

module _ (p : Program) (table : LifeTable) (w : World) (safe : AreSafe p table) (l : IsLawful p w) where
  finite_by : (f : Fact) → is_present p w.clock f ≡ true → (life : Option Life) → slice_get table.lives f.ty.0 ≡ life → is_alive p life w.clock f ≡ false
      → (n : ℤ) × (slice_get table.lives f.ty.0 ≡ Some (Finite n))
  finite_by f present None at h = absurd cc
  finite_by f present (Some Plain) at h = absurd cc
  finite_by f present (Some (Explicit expiry)) at h = absurd (let torn : true ≡ false = sym present ∙ h in cc)
  finite_by f present (Some (Finite n)) at h = (n, at)
  finite_by f present (Some Infinite) at h = absurd cc

  module _ (pattern : Pattern) (f : Fact) (there : In f w.facts) (forgotten : is_forgotten p table w (name_of f) ≡ true) (fit : fits p pattern w.clock f ≡ true) where
    pub of_type : f.ty.0 ≡ pattern.ty.0
    of_type =
        let typed = (and_parts (is_present p w.clock f) (f.ty.0 == pattern.ty.0 && (f.entry.0 == pattern.entry.0 && tests_hold unbound f pattern.alone)) fit).1 in
        eqb-true f.ty.0 pattern.ty.0 (and_parts (f.ty.0 == pattern.ty.0) (f.entry.0 == pattern.entry.0 && tests_hold unbound f pattern.alone) typed).0

    pub lost_life : (n : ℤ) × (slice_get table.lives f.ty.0 ≡ Some (Finite n))
    lost_life =
        finite_by f (and_parts (is_present p w.clock f) (f.ty.0 == pattern.ty.0 && (f.entry.0 == pattern.entry.0 && tests_hold unbound f pattern.alone)) fit).0
        (slice_get table.lives f.ty.0) refl
        (not_alive p table w safe f (not-true (is_kept p table w f) (sym (forgotten_fact p table w l.ordered.tags f there) ∙ forgotten)))

  -- and counts for no window of length
  pub uncounted : (rule : Rule) → In rule p.rules → (k : ℕ) (c : Condition) → slice_get rule.conditions k ≡ Some c → (count : ℕ) → (pattern_of c).window ≡ Length count
      → (f : Fact) → In f w.facts → is_forgotten p table w (name_of f) ≡ true → fits p (pattern_of c) w.clock f ≡ false
  uncounted rule in_rules k c at count window f there forgotten =
      false_from_ne_true (fits p (pattern_of c) w.clock f) (λ fit.
      let life = lost_life (pattern_of c) f there forgotten fit in
      let safe_life = safe.each f.ty.0 (Finite life.0) life.1 in
      absurd (lives_below p f.ty.0 safe_life.0 rule (record { place = k; condition = c }) safe_life.1 in_rules at
      (sym (of_type (pattern_of c) f there forgotten fit)) (Length count) infinite window refl))
