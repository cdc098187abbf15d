-- The snapshot of an image has what is kept of the world's.
use Rattle.image_laws.proofs.Common.{◌≡◌, ◌↔◌, ◌∙◌, ◌&&◌, ◌==◌, not, ℕ, ℤ, true, false, Option, Some, None, refl, sym, ap, slice_get, In, Fact, Image}
use Rattle.image_laws.proofs.Common.{Condition, Life, Plain, Explicit, Finite, Infinite, LifeTable, Program, Rule, is_present, fits, HaveDistinctTags, tag_cmp}
use Rattle.image_laws.proofs.Common.{moment_in, reached_in, pattern_of, tests_hold, name_of, unbound, IsLawful, World, snapshot, AreSafe, is_alive}
use Rattle.image_laws.proofs.Common.{is_forgotten, is_kept, is_tested, kept_inside, is_so, not_alive, snapshot_of, IsImageOf, IsKeptOf, and_parts, eqb-true}
use Rattle.image_laws.proofs.Common.{false_from_ne_true, not-false, not-true, sorted_marked, tag_total, tags_apart}
use Rattle.{rule_model.specs.{declared.condition.WindowTag.TheVariants.{Length}, Snapshots.{Reached}}, life_meaning.specs.Reach.{infinite}}
use Rattle.{life_meaning.proofs.Limits.{lives_below}, kept_meaning.proofs.Versions.{forgotten_fact}}
use mathlib.Core.Path.{fun_ext}

module _ (p : Program) (table : LifeTable) (w : World) (image : Image) (safe : AreSafe p table) (l : IsLawful p w) (is : IsImageOf p table w image) where
  pub image_tags : HaveDistinctTags image.facts
  image_tags = sorted_marked tag_cmp tag_total (λ (f : Fact). f.tag) tags_apart image.facts is.facts_in_order

  -- ---- its facts are those that are not forgotten

  pub forgotten_is : (f : Fact) → In f w.facts → is_forgotten p table w (name_of f) ≡ not (is_kept p table w f)
  forgotten_is f i = forgotten_fact p table w l.ordered.tags f i

  pub image_facts : (f : Fact) → In f image.facts ↔ (In f w.facts × (is_forgotten p table w (name_of f) ≡ false))
  image_facts f = (to, from)
    where
      to : In f image.facts → In f w.facts × (is_forgotten p table w (name_of f) ≡ false)
      to i =
          let kept = (is.facts f).0 i in
          let there = kept_inside p table w f kept in
          (there, forgotten_is f there ∙ ap not (is_tested p table w safe f kept))

      from : In f w.facts × (is_forgotten p table w (name_of f) ≡ false) → In f image.facts
      from i = (is.facts f).1 (is_so p table w safe f i.0 (not-false (is_kept p table w f) (sym (forgotten_is f i.0) ∙ i.1)))

  -- ---- what is forgotten counts for no window of length

  module _ (rule : Rule) (in_rules : In rule p.rules) (k : ℕ) (c : Condition) (at_k : slice_get rule.conditions k ≡ Some c) (count : ℕ) (window : (pattern_of c).window ≡ Length count) (f : Fact) where
    by_life : (pattern_of c).ty.0 ≡ f.ty.0 → is_present p w.clock f ≡ true → (life : Option Life) → slice_get table.lives f.ty.0 ≡ life → is_alive p life w.clock f ≡ false → ⊥
    by_life ty present None at e = absurd cc
    by_life ty present (Some Plain) at e = absurd cc
    by_life ty present (Some (Explicit expiry)) at e = let n : true ≡ false = sym present ∙ e in absurd cc
    by_life ty present (Some (Finite n)) at e =
        let life = safe.each f.ty.0 (Finite n) at in
        absurd (lives_below p f.ty.0 life.0 rule (record { place = k; condition = c }) life.1 in_rules at_k ty (Length count) infinite window refl)
    by_life ty present (Some Infinite) at e = absurd cc

    uncounted : In f w.facts → is_forgotten p table w (name_of f) ≡ true → fits p (pattern_of c) w.clock f ≡ false
    uncounted i forgotten = false_from_ne_true (fits p (pattern_of c) w.clock f) (λ h.
        let q = pattern_of c in
        let there = and_parts (is_present p w.clock f) (f.ty.0 == q.ty.0 && (f.entry.0 == q.entry.0 && tests_hold unbound f q.alone)) h in
        let of_type = and_parts (f.ty.0 == q.ty.0) (f.entry.0 == q.entry.0 && tests_hold unbound f q.alone) there.1 in
        by_life (sym (eqb-true f.ty.0 q.ty.0 of_type.0)) there.0 (slice_get table.lives f.ty.0) refl
        (not_alive p table w safe f (not-true (is_kept p table w f) (sym (forgotten_is f i) ∙ forgotten))))

  -- ---- what entry points have reached

  abbrev reaching : (ℕ → ℤ) → (ℕ → ℤ) → Reached
  reaching last_start promise = record { last_start = last_start; promise = promise }

  image_reached : reached_in image.last_starts image.promises ≡ w.reached
  image_reached =
      ap (λ last. reaching last (moment_in image.promises)) (fun_ext is.last_starts.each)
      ∙ ap (reaching w.reached.last_start) (fun_ext is.promises.each)

  pub image_kept : IsKeptOf p (snapshot w) (is_forgotten p table w) (snapshot_of image)
  image_kept = record {
    tags = image_tags;
    facts = image_facts;
    clock = is.clock;
    reached = image_reached;
    uncounted = λ rule in_rules k c at_k count window f i e. uncounted rule in_rules k c at_k count window f i e;
  }
