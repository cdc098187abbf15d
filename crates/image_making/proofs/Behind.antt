-- A network can be loaded from what is made of an image.
use Rattle.std.proofs.Common.{List, Option, Some, [], ap, ap₂, map, option_map, refl, slice_get, subst, suc, sym, take, true, ℕ, ℤ, ◌∙◌, ◌≡◌}
use Rattle.{std.{proofs.lemmas.Option.{slice_get-map}, specs.List.Sorted.{IsStrictlySortedBy}}, change_resolve.proofs.Places.{some_is}}
use Rattle.{checkpoint.specs.declared.image.Image.{Image}, fx_base.specs.{Lists.{In}, declared.fact.Fact.{Fact}}, image_change.proofs.Lists.{at_last}}
use Rattle.image_change.{proofs.{Lists.{sorted_mapped}, Lost.{binds_moved}, Owners.{owners}}, specs.Images.{IsMovedExtra, IsMovedImage}}
use Rattle.{image_fitting.specs.Plain.{FittingLaw, FitsPlainly}, image_laws.specs.Fitting.{world_of}, laden_rows.specs.Extras.{IsFirstWith}}
use Rattle.{laden_rows.specs.Placed.{CanGather, IsPlaced}, row_delta.specs.declared.extra.Extra.{Extra}, rule_change.proofs.Changing.{alike_at_change}}
use Rattle.rule_change.{proofs.{Matching.{lawful_places, over_moves}, Rows.{present_same}}, specs.{Alike.{AreAlike, AreOver}, Changed.{changed}}}
use Rattle.{rule_change.specs.Changed.{moved_condition, moved_fact}, rule_model.{proofs.Listed.{of_map}, specs.{Candidates.{is_present}, Distinct.{tag_cmp}}}}
use Rattle.rule_model.specs.{Moments.{moment_in}, Snapshots.{Reached}, declared.condition.Condition.{Condition, TheVariants.{Existing, Folded, Negated, Plain}}}
use Rattle.{rule_model.specs.declared.program.{Program.{Program}, Rule.{Rule}}, rule_world.specs.{Lawful.{IsLawful, IsSoundFact}, Worlds.{World}}}
use Rattle.image_making.specs.{Laws.{ChangedCanBeLoaded, FittingCanBeLoaded}, Loads.{CanBeLoaded}}
use mathlib.Core.Path.{fun_ext}

-- ---- a lawful world in which nothing was fired

unfired : World → World
unfired w = record w { fired = [] }

still_sound : (p : Program) (w : World) (f : Fact) → IsSoundFact p w f → IsSoundFact p (unfired w) f
unfolding unfired
still_sound p w f s = record {
  fits = s.fits;
  timed = λ e. let t = s.timed e in record { from_zero = t.from_zero; to_clock = t.to_clock; to_last = t.to_last; event = t.event; short = t.short };
  plain = s.plain;
}

still_lawful : (p : Program) (w : World) → IsLawful p w → IsLawful p (unfired w)
unfolding unfired
still_lawful p w l = record {
  ordered = record { ids = l.ordered.ids; fresh_ids = l.ordered.fresh_ids; tags = l.ordered.tags; fresh = l.ordered.fresh; fired = λ m e. absurd cc };
  once = tt;
  clock_low = l.clock_low;
  clock_high = l.clock_high;
  last_low = l.last_low;
  last_high = l.last_high;
  promise_low = l.promise_low;
  promise_high = l.promise_high;
  sound = λ f i. still_sound p w f (l.sound f i);
  events = l.events;
  unbegun = l.unbegun;
}

-- ---- what is made of an image

module _ (p q : Program) (from : ℕ → Option ℕ) (image made : Image) (over : AreOver p q from) (can : CanBeLoaded p image) (is : IsMovedImage p q image made) where
  abbrev next : World
  next = changed p q from (world_of image)

  behind : IsLawful q next × AreAlike p q from (world_of image) next
  behind = alike_at_change p q from (world_of image) over can.lawful

  abbrev reaching : (ℕ → ℤ) → (ℕ → ℤ) → Reached
  reaching last_start promise = record { last_start = last_start; promise = promise }

  reached : next.reached ≡ reaching (moment_in made.last_starts) (moment_in made.promises)
  unfolding changed
  reached = sym (ap (λ last. reaching last (moment_in made.promises)) (fun_ext is.last_starts.each) ∙ ap (reaching next.reached.last_start) (fun_ext is.promises.each))

  world_is : unfired next ≡ world_of made
  unfolding unfired
  world_is i = record {
    facts = (behind.1.facts ∙ sym is.facts) i;
    clock = (behind.1.clock ∙ sym is.clock) i;
    reached = reached i;
    begun = (behind.1.begun ∙ sym is.begun) i;
    next_id = (behind.1.next_id ∙ sym is.next_id) i;
    next_tag = (behind.1.next_tag ∙ sym is.next_tag) i;
    fired = [];
  }

  present : (f : Fact) → In f made.facts → is_present q made.clock f ≡ true
  present f i =
      let g = of_map (moved_fact p q) f image.facts (subst (λ (fs : List Fact). In f fs) is.facts i) in
      ap (λ (x : Fact). is_present q made.clock x) (sym g.2) ∙ ap (λ clock. is_present q clock (moved_fact p q g.0)) is.clock
      ∙ present_same p q (over_moves p q from over) image.clock g.0 (lawful_places p (world_of image) can.lawful g.0 g.1) ∙ can.present g.0 g.1

  gathers : (c : Condition) (e : Extra) → CanGather c e → CanGather (moved_condition p q c) e
  gathers (Plain pattern) e h = h
  gathers (Negated pattern) e h = h
  gathers (Existing pattern) e h = h
  gathers (Folded a) e h = h

  placed : (e : Extra) → In e made.extras → IsPlaced q e
  placed e i = by e ((is.extras e).0 i)
    where
      stands : (old rule : Rule) (n : ℕ) (c : Condition) → map (moved_condition p q) (take (suc n) old.conditions) ≡ take (suc n) rule.conditions → slice_get old.conditions n ≡ Some c
          → slice_get rule.conditions n ≡ Some (moved_condition p q c)
      stands old rule n c begins at =
          sym (at_last n rule.conditions) ∙ ap (λ (cs : List Condition). slice_get cs n) (sym begins)
          ∙ slice_get-map (moved_condition p q) (take (suc n) old.conditions) n
          ∙ ap (option_map (moved_condition p q)) (at_last n old.conditions ∙ at)

      by : (e : Extra) → IsMovedExtra p q image e → IsPlaced q e
      by e x =
          let was = can.placed x.was x.there in
          let n : e.condition ≡ x.was.condition = ap (λ (z : Extra). z.condition) x.alike in
          let old : was.rule ≡ x.old = some_is (sym was.stands ∙ x.old_stands) in
          subst (IsPlaced q) (sym x.alike) (record {
            rule = x.rule;
            stands = x.stands;
            condition = moved_condition p q was.condition;
            placed =
                stands was.rule x.rule x.was.condition was.condition
                (ap₂ (λ (k : ℕ) (r : Rule). map (moved_condition p q) (take (suc k) r.conditions)) (sym n) old ∙ x.begins ∙ ap (λ (k : ℕ). take (suc k) x.rule.conditions) n) was.placed;
            aside = binds_moved p q was.condition ∙ was.aside;
            first = subst (λ (k : ℕ). IsFirstWith q (suc k) x.rule.conditions e.rule.0) n x.first;
            some = was.some;
            small = was.small;
            gathered = gathers was.condition (record x.was { rule = e.rule }) (lent was.condition was.gathered);
          })
        where
          lent : (c : Condition) → CanGather c x.was → CanGather c (record x.was { rule = e.rule })
          lent (Plain pattern) h = h
          lent (Negated pattern) h = h
          lent (Existing pattern) h = h
          lent (Folded a) h = h

  can_be_loaded : CanBeLoaded q made
  can_be_loaded = record {
    runnable = over.other_runnable;
    lawful = subst (IsLawful q) world_is (still_lawful q next behind.0);
    present = present;
    facts_in_order = subst (IsStrictlySortedBy tag_cmp) (sym is.facts) (sorted_mapped (moved_fact p q) tag_cmp tag_cmp (λ f g. refl) image.facts can.facts_in_order);
    placed = placed;
    extras_in_order = is.extras_in_order;
  }

pub moved_can_be_loaded : ChangedCanBeLoaded
moved_can_be_loaded p q from image made over can is = can_be_loaded p q from image made over can is

-- ---- images that fit

pub fitting_can_be_loaded : FittingLaw → FittingCanBeLoaded
fitting_can_be_loaded law p table image runnable safe fits =
    let plain : FitsPlainly p table image = ((law p table image (owners p).0 safe (owners p).1).0 fits).0 in record {
      runnable = runnable;
      lawful = plain.lawful;
      present = plain.present;
      facts_in_order = plain.facts_in_order;
      placed = λ e i. (plain.placed e i).place;
      extras_in_order = plain.extras_in_order;
    }
