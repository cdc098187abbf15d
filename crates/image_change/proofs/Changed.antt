-- The changed image is that of the world under the new rules.
use Rattle.image_change.proofs.Common.{AreExtras, AreMoments, Bool, Fact, HaveDistinctTags, Image, In, IsChangedImage, IsImageOf, IsKept, IsKeptOf, LifeTable}
use Rattle.image_change.proofs.Common.{List, Match, Named, None, Option, Program, Some, World, and_from, and_parts, ap, as_old, carried, clean, false, filtered}
use Rattle.image_change.proofs.Common.{forgotten_fact, fun_ext, has_fired, has_match, in_map, is_marked, length, map, match_fired, matches, moved_fact, name_of}
use Rattle.image_change.proofs.Common.{not, of_map, refl, same_test, snapshot, snapshot_of, subst, sym, true, was_fired, ℕ, ℤ, ◌&&◌, ◌↔◌, ◌∙◌, ◌≡◌, AreOwners}
use Rattle.image_change.proofs.{Common.{IsLadenMatch, Rule, rows_of, slice_get, take}, Counted.{clean_same, moved_extra}, Forgotten.{uncounted}, Kept.{IsTaken}}
use Rattle.image_change.proofs.{Kept.{behind, forgotten_same, still_safe}, Lists.{sorted_mapped}, Matched.{of_laden, to_laden}, Owners.{owners}}
use Rattle.{image_change.specs.Images.{ChangedFits, ChangedIsImage, IsMovedImage}, image_laws.proofs.{Fit.{image_fits}, Imaged.{image_facts}}}
use Rattle.{image_laws.specs.{Fitting.{IsNextNumber}, Images.{fired_cmp}}, kept_meaning.{proofs.Decided.{kept_decided, kept_inside}, specs.Kept.{is_forgotten}}}
use Rattle.{kept_meaning.specs.Kept.{is_kept}, join_memory.specs.Memories.{made}, rule_change.specs.Changed.{changed, entry_in, moment_or_zero}}
use Rattle.rule_model.{proofs.Sorted.{sorted_marked, tag_total, tags_apart}, specs.{Distinct.{tag_cmp}, Moments.{moment_in}, Snapshots.{Reached}}}
use Rattle.{std.{proofs.lemmas.Bool.{not-false}, specs.List.Sorted.{IsStrictlySortedBy}}, change_resolve.proofs.Places.{some_is}}
use Rattle.{laden_rows.{proofs.Rows.{laden_rows}, specs.Laden.{laden}}, row_delta.specs.declared.extra.Extra.{Extra}}

module _ (p q : Program) (from : ℕ → Option ℕ) (table own : LifeTable) (w : World) (t : IsTaken p q from table own w) (image made : Image) (is : IsImageOf p table w image)
    (c : IsMovedImage p q image made) where
  abbrev next : World
  next = changed p q from w

  abbrev goes_on : LifeTable
  goes_on = carried p q table own

  abbrev forgotten : Named → Bool
  forgotten = is_forgotten q goes_on next

  -- ---- moments

  moments_same : (of was : ℕ → ℤ) → ((entry : ℕ) → was entry ≡ of entry) → (o : Option ℕ) → moment_or_zero was o ≡ moment_or_zero of o
  moments_same of was same None = refl
  moments_same of was same (Some entry) = same entry

  last_starts : AreMoments next.reached.last_start (length q.entries) made.last_starts
  unfolding changed
  last_starts = record {
    as_many = c.last_starts.as_many;
    each = λ entry. c.last_starts.each entry ∙ moments_same w.reached.last_start (moment_in image.last_starts) is.last_starts.each (entry_in q p entry);
  }

  promises : AreMoments next.reached.promise (length q.entries) made.promises
  unfolding changed
  promises = record {
    as_many = c.promises.as_many;
    each = λ entry. c.promises.each entry ∙ moments_same w.reached.promise (moment_in image.promises) is.promises.each (entry_in q p entry);
  }

  -- ---- facts

  facts_in_order : IsStrictlySortedBy tag_cmp made.facts
  facts_in_order = subst (IsStrictlySortedBy tag_cmp) (sym c.facts) (sorted_mapped (moved_fact p q) tag_cmp tag_cmp (λ x y. refl) image.facts is.facts_in_order)

  facts : (f : Fact) → In f made.facts ↔ (In f next.facts × (forgotten (name_of f) ≡ false))
  facts f = (to, back)
    where
      to : In f made.facts → In f next.facts × (forgotten (name_of f) ≡ false)
      to i =
          let g = of_map (moved_fact p q) f image.facts (subst (λ (fs : List Fact). In f fs) c.facts i) in
          let there = (image_facts p table w image t.safe.safe t.lawful is g.0).0 g.1 in (
            subst (λ (fs : List Fact). In f fs) (sym (behind p q from table own w t).1.facts)
                (subst (λ (x : Fact). In x (map (moved_fact p q) w.facts)) g.2 (in_map (moved_fact p q) g.0 w.facts there.0)),
            ap (λ (x : Fact). forgotten (name_of x)) (sym g.2) ∙ forgotten_same p q from table own w t (name_of g.0) ∙ there.1,
          )

      back : In f next.facts × (forgotten (name_of f) ≡ false) → In f made.facts
      back h =
          let g = of_map (moved_fact p q) f w.facts (subst (λ (fs : List Fact). In f fs) (behind p q from table own w t).1.facts h.0) in
          let kept = sym (forgotten_same p q from table own w t (name_of g.0)) ∙ ap (λ (x : Fact). forgotten (name_of x)) g.2 ∙ h.1 in
          subst (λ (fs : List Fact). In f fs) (sym c.facts)
          (subst (λ (x : Fact). In x (map (moved_fact p q) image.facts)) g.2 (in_map (moved_fact p q) g.0 image.facts ((image_facts p table w image t.safe.safe t.lawful is g.0).1 (g.1, kept))))

  kept_facts : (f : Fact) → In f made.facts ↔ IsKept q goes_on next f
  kept_facts f = (to, back)
    where
      to : In f made.facts → IsKept q goes_on next f
      to i =
          let there = (facts f).0 i in
          (kept_decided q goes_on next (still_safe p q from table own w t).safe f there.0).0
          (not-false (is_kept q goes_on next f) (sym (forgotten_fact q goes_on next (behind p q from table own w t).0.ordered.tags f there.0) ∙ there.1))

      back : IsKept q goes_on next f → In f made.facts
      back k =
          let there = kept_inside q goes_on next f k in
          (facts f).1 (
            there,
            forgotten_fact q goes_on next (behind p q from table own w t).0.ordered.tags f there
                ∙ ap not ((kept_decided q goes_on next (still_safe p q from table own w t).safe f there).1 k),
          )

  -- ---- what the image has of the world under the new rules

  abbrev reaching : (ℕ → ℤ) → (ℕ → ℤ) → Reached
  reaching last_start promise = record { last_start = last_start; promise = promise }

  kept_of : IsKeptOf q (snapshot next) forgotten (snapshot_of made)
  kept_of = record {
    tags = sorted_marked tag_cmp tag_total (λ (f : Fact). f.tag) tags_apart made.facts facts_in_order;
    facts = facts;
    clock = c.clock ∙ is.clock ∙ sym (behind p q from table own w t).1.clock;
    reached = ap (λ last. reaching last (moment_in made.promises)) (fun_ext last_starts.each) ∙ ap (reaching next.reached.last_start) (fun_ext promises.each);
    uncounted = uncounted q goes_on next (still_safe p q from table own w t).safe (behind p q from table own w t).0;
  }

  are_extras : AreExtras q (snapshot next) forgotten made.extras
  are_extras = record {
    in_order = c.extras_in_order;
    exact = λ e.
        let moved = moved_extra p q from table own w t image is e in
        (λ i. moved.0 ((c.extras e).0 i), λ x. (c.extras e).1 (moved.1 x));
  }

  -- ---- fired matches

  marked_on : (m : Match) (o : Option ℕ) → was_fired (map match_fired image.fired) m o ≡ true → was_fired w.fired m o ≡ true
  marked_on m None e = refl
  marked_on m (Some old) e = (and_parts (has_match w.fired (as_old old m)) (clean (is_forgotten p table w) m.row) (sym (is.fired (as_old old m)) ∙ e)).0

  marked_back : (m : Match) (o : Option ℕ) → clean (is_forgotten p table w) m.row ≡ true → was_fired w.fired m o ≡ true → was_fired (map match_fired image.fired) m o ≡ true
  marked_back m None cleans e = refl
  marked_back m (Some old) cleans e = is.fired (as_old old m) ∙ and_from (has_match w.fired (as_old old m)) (clean (is_forgotten p table w) m.row) e cleans

  has_marked : (m : Match) → has_match next.fired m ≡ (has_match (matches q (snapshot next)) m && is_marked from w.fired m)
  unfolding changed
  has_marked m = filtered (is_marked from w.fired) m (matches q (snapshot next))

  -- the rows of what is counted are there
  pub rows_there : (owners : ℕ → ℕ → ℕ) → AreOwners q owners → (e : Extra) → In e made.extras → (rule : Rule) → slice_get q.rules e.rule.0 ≡ Some rule
      → laden q (snapshot_of made) made.extras (owners e.rule.0) rule.conditions e.condition e.row ≡ true
  rows_there owners owned e i rule stands =
      let x = (are_extras.exact e).0 i in
      let same : x.rule ≡ rule = some_is (sym x.stands ∙ stands) in
      laden_rows q (snapshot next) (snapshot_of made) forgotten made.extras owners (behind p q from table own w t).0.ordered.tags kept_of are_extras owned e.rule.0 rule stands e.condition e.row
      ∙ and_from (rows_of q (snapshot next) (take e.condition rule.conditions) e.row) (clean forgotten e.row)
      (ap (λ (r : Rule). rows_of q (snapshot next) (take e.condition r.conditions) e.row) (sym same) ∙ x.there) x.kept

  module _ (in_order : IsStrictlySortedBy fired_cmp made.fired)
      (fires : (owners : ℕ → ℕ → ℕ) → AreOwners q owners → (m : Match)
      → (has_fired made m ≡ true) ↔ (IsLadenMatch q made owners m.rule.0 m.row × (is_marked from (map match_fired image.fired) m ≡ true))) where
    fired : (m : Match) → has_fired made m ≡ (has_match next.fired m && clean forgotten m.row)
    fired m = same_test _ _ to back
      where
        tags : HaveDistinctTags next.facts
        tags = (behind p q from table own w t).0.ordered.tags

        to : has_fired made m ≡ true → (has_match next.fired m && clean forgotten m.row) ≡ true
        to e =
            let o = owners q in
            let parts = (fires o.0 o.1 m).0 e in
            let match = of_laden q (snapshot next) forgotten made o.0 tags kept_of are_extras o.1 m parts.0 in
            and_from (has_match next.fired m) (clean forgotten m.row)
            (has_marked m ∙ and_from (has_match (matches q (snapshot next)) m) (is_marked from w.fired m) match.0 (marked_on m (from m.rule.0) parts.1)) match.1

        back : (has_match next.fired m && clean forgotten m.row) ≡ true → has_fired made m ≡ true
        back e =
            let o = owners q in
            let parts = and_parts (has_match next.fired m) (clean forgotten m.row) e in
            let match = and_parts (has_match (matches q (snapshot next)) m) (is_marked from w.fired m) (sym (has_marked m) ∙ parts.0) in
            (fires o.0 o.1 m).1 (
              to_laden q (snapshot next) forgotten made o.0 tags kept_of are_extras o.1 m match.0 parts.1,
              marked_back m (from m.rule.0) (sym (clean_same p q from table own w t m.row) ∙ parts.1) match.1,
            )

    pub is_image : IsImageOf q goes_on next made
    is_image = record {
      clock = c.clock ∙ is.clock ∙ sym (behind p q from table own w t).1.clock;
      begun = c.begun ∙ is.begun ∙ sym (behind p q from table own w t).1.begun;
      last_starts = last_starts;
      promises = promises;
      next_id = c.next_id ∙ is.next_id ∙ sym (behind p q from table own w t).1.next_id;
      next_tag = c.next_tag ∙ is.next_tag ∙ sym (behind p q from table own w t).1.next_tag;
      facts_in_order = facts_in_order;
      facts = kept_facts;
      fired_in_order = in_order;
      fired = fired;
      extras = are_extras;
    }

moved_of : (p q : Program) (from : ℕ → Option ℕ) (image made : Image) → IsChangedImage p q from image made → IsMovedImage p q image made
moved_of p q from image made c = record {
  clock = c.clock;
  begun = c.begun;
  last_starts = c.last_starts;
  promises = c.promises;
  next_id = c.next_id;
  next_tag = c.next_tag;
  facts = c.facts;
  extras_in_order = c.extras_in_order;
  extras = c.extras;
}

pub changed_is_image : ChangedIsImage
changed_is_image p q from table own w image made over lawful safe lives short verdict is c =
    is_image p q from table own w (record { over = over; lawful = lawful; safe = safe; lives = lives; short = short; verdict = verdict }) image made is (moved_of p q from image made c)
    c.fired_in_order c.fired

pub changed_fits : ChangedFits
changed_fits p q from table own w image made over lawful safe lives short verdict is c ids tags lines firings =
    let t : IsTaken p q from table own w = record { over = over; lawful = lawful; safe = safe; lives = lives; short = short; verdict = verdict } in
    image_fits q (carried p q table own) (changed p q from w) made (still_safe p q from table own w t).safe (behind p q from table own w t).0
    (is_image p q from table own w t image made is (moved_of p q from image made c) c.fired_in_order c.fired) (subst IsNextNumber (sym c.next_id) ids) (subst IsNextNumber (sym c.next_tag) tags) lines firings
