-- A session that is made from the image of a lawful world stands for that world.
use Rattle.session_model.proofs.Common.{◌≡◌, ◌∙◌, not, ℕ, ℤ, pos, ◌≤ℤ◌, ◌<◌, Bool, true, false, is_some, List, [], ◌∷◌, Option, Some, None, refl, sym, ap}
use Rattle.session_model.proofs.Common.{subst, arith, AllByRecursion, nat_cmp, Less, ints, In, Fact, Named, Image, Timers, HeldFacts, facts_of, tag_of}
use Rattle.session_model.proofs.Common.{from_list, from_map, Life, Plain, Explicit, Finite, Infinite, LifeTable, Moment, Program, is_present, fits}
use Rattle.session_model.proofs.Common.{HaveDistinctTags, saliences, reached_in, pattern_of, Snapshot, name_of, is_event, floor_on, of_filter, in_filter}
use Rattle.session_model.proofs.Common.{passed, in_place, end_by, IsLawful, IsRunnable, World, snapshot, present, only_present, below_of, distinct_filtered}
use Rattle.session_model.proofs.Common.{empty_snapshot, HasAllOf, is_alive, is_forgotten, kept_inside, not_alive, forgotten_fact, lost, in_no_window, tag_cmp}
use Rattle.session_model.proofs.Common.{snapshot_of, IsImageOf, IsKeptOf, AreOwners, image_kept, FitsPlainly, Marks, IsOrderly, Retention, is_tag_among}
use Rattle.session_model.proofs.Common.{is_named, PassesLives, only, chosen, own_at, Rete, AreOutsideOfTime, IsBehind, IsLoadable, Setting, version_of, over}
use Rattle.session_model.proofs.Common.{stored, AreHeld, AreStorable, HasTimes, IsMatched, AreForgotten, Contents, Course, Mirrors, Runs, Standing, expiry_at}
use Rattle.{session_model.proofs.Common.{with_facts}, std.{proofs.{lemmas.Bool.{not-true}, Common.{map as list_map}}, specs.Prelude.{slice_get}}}
use Rattle.std.specs.FinMap as map_of
use Rattle.{std.specs.List.Sorted.{IsStrictlySortedBy}, fact_store.proofs.Members.{tags_rise as held_rise}, rule_world.specs.Events.{most_millis}}
use Rattle.{condition_rows.specs.Sets.{held}, kept_meaning.specs.Kept.{is_kept}, session_model.proofs.Kept_parts.{holds_kept_parts, image_holds, store_is}}
use Rattle.session_model.proofs.{Forgotten.{same_version}, Members.{Holds, all_listed, listed, own_tags, version_found, versions}, Presented.{extras_here}}
use Rattle.{session_model.proofs.{Ready.{IsFit, kept_of}, Rising.{rising_same}, Stands.{contents}, Storing.{stored_holds}}, fx_base.proofs.Orders.{≤ℤ_same}}

never_ends : (event : Bool) (start : ℤ) → end_by event None start ≡ None
never_ends true start = refl
never_ends false start = refl

-- ---- facts in the order of their tags

tags_below : (f : Fact) (facts : List Fact) → AllByRecursion (λ g. tag_cmp f g ≡ Less) facts → AllByRecursion (λ n. nat_cmp f.tag.0 n ≡ Less) (list_map (λ (g : Fact). g.tag.0) facts)
tags_below f [] a = tt
tags_below f (g ∷ facts) a = (a.0, tags_below f facts a.1)

tags_rise : (facts : List Fact) → IsStrictlySortedBy tag_cmp facts → IsStrictlySortedBy nat_cmp (list_map (λ (f : Fact). f.tag.0) facts)
unfolding IsStrictlySortedBy
tags_rise [] s = tt
tags_rise (f ∷ facts) s = (tags_below f facts s.0, tags_rise facts s.1)

-- what a snapshot holds under a tag
held_there : (s : Snapshot) (tag : ℕ) (f : Fact) → held s (tag_of tag) ≡ Some f → In f s.facts × (f.tag.0 ≡ tag)
unfolding held
held_there s tag f e = version_found s.facts f (tag_of tag) (sym (same_version s.facts (tag_of tag)) ∙ e)

-- ---- an image that fits by plain tests

module _ (p : Program) (table : LifeTable) (image : Image) (plain : FitsPlainly p table image) (runnable : IsRunnable p) where
  abbrev here : Snapshot
  here = snapshot_of image

  -- its events start from 0 to the clock
  event_low : (f : Fact) → In f image.facts → is_event p f.ty.0 ≡ true → pos 0 ≤ℤ f.times.start
  event_low f i e = ((plain.lawful.sound f i).timed e).from_zero

  event_high : (f : Fact) → In f image.facts → is_event p f.ty.0 ≡ true → f.times.start ≤ℤ most_millis
  event_high f i e =
      let low : f.times.start ≤ℤ image.clock = ((plain.lawful.sound f i).timed e).to_clock in
      let high : image.clock ≤ℤ most_millis = plain.lawful.clock_high in
      omega (arith, ints, low, high)

  times : (f : Fact) → In f image.facts → (b : Bool) → is_event p f.ty.0 ≡ b → HasTimes f
  unfolding most_millis
  times f i true e =
      let t = (plain.lawful.sound f i).timed e in
      let low : pos 0 ≤ℤ f.times.start = t.from_zero in
      let high : f.times.start ≤ℤ most_millis = event_high f i e in
      let on : f.times.start ≤ℤ f.times.end = t.event.ordered in
      let short = t.short in
      record {
        start_low = omega (arith, ints, low);
        start_high = high;
        end_low = omega (arith, ints, low, on);
        end_high = omega (arith, ints, high, short);
      }
  times f i false e =
      let none = (plain.lawful.sound f i).plain e in
      let start : f.times.start ≡ pos 0 = ap (λ t. t.start) none in
      let end : f.times.end ≡ pos 0 = ap (λ t. t.end) none in
      record {
        start_low = omega (arith, ints, start);
        start_high = omega (arith, ints, start);
        end_low = omega (arith, ints, end);
        end_high = omega (arith, ints, end);
      }

  pub storable : AreStorable image.facts
  storable = record { tags = plain.lawful.ordered.tags; times = λ f i. times f i (is_event p f.ty.0) refl }

  image_orderly : IsOrderly p here
  image_orderly = record {
    in_order = tags_rise image.facts plain.facts_in_order;
    present = plain.present;
    low = event_low;
    high = event_high;
  }

  pub image_held : Holds (stored image.facts) image.facts
  image_held = stored_holds image.facts plain.lawful.ordered.tags

  -- a store of its facts lists them in its order
  pub kept_in_order : (store : HeldFacts) → store ≡ stored image.facts → facts_of store ≡ image.facts
  kept_in_order store same =
      let holds : Holds store image.facts = subst (λ (h : HeldFacts). Holds h image.facts) (sym same) image_held in
      rising_same (facts_of store) image.facts (held_rise store (own_tags store image.facts holds)) (tags_rise image.facts plain.facts_in_order)
      (listed store image.facts holds) (all_listed store image.facts holds)

  -- a network can be loaded from it
  pub loadable : (moment : Moment) → moment.clock ≡ image.clock → moment.last_starts.now ≡ image.last_starts → moment.promises.now ≡ image.promises
      → IsLoadable p here image.facts image.extras moment (λ tag. map_of.get (stored image.facts) tag.0)
  loadable moment clock last_starts promises = record {
    runnable = runnable;
    facts = refl;
    at = record {
      clock = sym clock;
      reached = sym (ap (λ ls. reached_in ls moment.promises.now) last_starts ∙ ap (reached_in image.last_starts) promises);
    };
    begun = plain.lawful.clock_low;
    orderly = image_orderly;
    floors = λ entry. floor_on p empty_snapshot here entry plain.lawful.clock_low (plain.lawful.last_low entry) (plain.lawful.promise_low entry);
    at_hand = λ tag f e known. let i = held_there here tag.0 f e in ap (map_of.get (stored image.facts)) (sym i.1) ∙ image_held.from f i.0;
    placed = λ e i. (plain.placed e i).place;
    in_order = plain.extras_in_order;
  }

-- ---- the world of an image

module _ (s : Setting) (runs : Runs s) (image : Image) (plain : FitsPlainly s.program s.lives image) (w : World) (l : IsLawful s.program w) (is : IsImageOf s.program s.lives w image) where
  abbrev p : Program
  p = s.program

  abbrev forgotten : Named → Bool
  forgotten = is_forgotten p s.lives w

  once : HaveDistinctTags image.facts
  once = plain.lawful.ordered.tags

  abbrev store : HeldFacts
  store = stored image.facts

  -- all present facts of the world
  abbrev all : HeldFacts
  all = stored (present p w)

  present_once : HaveDistinctTags (present p w)
  present_once = distinct_filtered (is_present p w.clock) w.facts l.ordered.tags

  all_holds : Holds all (present p w)
  all_holds = stored_holds (present p w) present_once

  store_holds : Holds store image.facts
  store_holds = image_holds p s.lives w image runs.table.safe l is once

  all_at : (tag : ℕ) → map_of.get all tag ≡ version_of (present p w) (tag_of tag)
  all_at = versions all (present p w) all_holds present_once

  in_world : (tag : ℕ) (f : Fact) → map_of.get all tag ≡ Some f → In f w.facts
  in_world tag f e = of_filter (is_present p w.clock) f w.facts (all_holds.to tag f e).0

  image_present : (f : Fact) → In f image.facts → In f (present p w)
  image_present f i =
      in_filter (is_present p w.clock) f w.facts (ap (λ clock. is_present p clock f) (sym is.clock) ∙ plain.present f i) (kept_inside p s.lives w f ((is.facts f).0 i))

  -- what is forgotten of them is not in the store
  stored_kept : (f : Fact) → In f w.facts → is_some (map_of.get store f.tag.0) ≡ is_kept p s.lives w f
  stored_kept f i =
      ap is_some (store_is p s.lives w image runs.table.safe l is once f.tag.0 ∙ ap (only (is_kept p s.lives w)) (own_at w.facts l.ordered.tags f i))
      ∙ chosen (is_kept p s.lives w f) f

  lost_is : (f : Fact) → In f w.facts → forgotten (name_of f) ≡ not (is_some (map_of.get store f.tag.0))
  lost_is f i = forgotten_fact p s.lives w l.ordered.tags f i ∙ ap not (sym (stored_kept f i))

  -- ---- the snapshot of the present facts

  reached_is : reached_in image.last_starts image.promises ≡ w.reached
  reached_is = (image_kept p s.lives w image runs.table.safe l is).reached

  abbrev behind : Snapshot
  behind = over (facts_of all) image.clock (reached_in image.last_starts image.promises)

  of_behind : (f : Fact) → In f (facts_of all) → In f (present p w)
  of_behind f i = let r = from_list all f i in (all_holds.to r.0 f r.1).0

  all_fit : (tag : ℕ) (f : Fact) → map_of.get all tag ≡ Some f → IsFit p image.clock f
  all_fit tag f e =
      let i = (all_holds.to tag f e).0 in
      let there = of_filter (is_present p w.clock) f w.facts i in
      record {
        present = ap (λ clock. is_present p clock f) is.clock ∙ passed (is_present p w.clock) f w.facts i;
        low = λ event. ((l.sound f there).timed event).from_zero;
        high = λ event.
            let low : f.times.start ≤ℤ w.clock = ((l.sound f there).timed event).to_clock in
            let high : w.clock ≤ℤ most_millis = l.clock_high in
            omega (arith, ints, low, high);
      }

  behind_orderly : IsOrderly p behind
  behind_orderly =
      let o = kept_of p all image.clock (own_tags all (present p w) all_holds) all_fit in
      record { in_order = o.in_order; present = o.present; low = o.low; high = o.high }

  world_kept : IsKeptOf p (snapshot w) forgotten (snapshot_of image)
  world_kept = image_kept p s.lives w image runs.table.safe l is

  in_behind : (f : Fact) → In f (present p w) → In f (facts_of all)
  in_behind f i = from_map all f f.tag.0 (all_holds.from f i)

  behind_kept : IsKeptOf p behind forgotten (snapshot_of image)
  behind_kept = record {
    tags = once;
    facts = λ f. (
      λ i. (in_behind f (image_present f i), ((world_kept.facts f).0 i).1),
      λ i. (world_kept.facts f).1 (of_filter (is_present p w.clock) f w.facts (of_behind f i.0), i.1),
    );
    clock = refl;
    reached = refl;
    uncounted = λ rule in_rules k c at_k count window f i e.
        ap (λ clock. fits p (pattern_of c) clock f) is.clock
        ∙ world_kept.uncounted rule in_rules k c at_k count window f (of_filter (is_present p w.clock) f w.facts (of_behind f i)) e;
  }

  outside : AreOutsideOfTime p behind forgotten
  outside rule in_rules k c at_k span window f i e =
      let there = of_filter (is_present p w.clock) f w.facts (of_behind f i) in
      let unkept : is_kept p s.lives w f ≡ false = not-true (is_kept p s.lives w f) (sym (forgotten_fact p s.lives w l.ordered.tags f there) ∙ e) in
      in_no_window p s.lives w runs.table.safe l f there unkept rule in_rules c (in_place rule.conditions k c at_k) span window behind (≤ℤ_same w.clock image.clock is.clock)

  at_hand : HasAllOf (λ tag. map_of.get store tag.0) behind forgotten
  at_hand tag f e known =
      let i = held_there behind tag.0 f e in
      let there = of_filter (is_present p w.clock) f w.facts (of_behind f i.0) in
      ap (map_of.get store) (sym i.1) ∙ store_holds.from f ((world_kept.facts f).1 (there, known))

  is_behind : IsBehind p behind (snapshot_of image) forgotten image.extras (λ tag. map_of.get store tag.0)
  is_behind = record {
    orderly = behind_orderly;
    kept = behind_kept;
    outside = outside;
    lost =
        extras_here p w l.ordered.tags all image.clock is.clock (reached_in image.last_starts image.promises) reached_is all_at forgotten forgotten (λ f i. refl) image.extras is.extras;
    at_hand = at_hand;
  }

  -- ---- what waits

  -- what is forgotten waits for nothing
  no_expiry : (f : Fact) → is_present p w.clock f ≡ true → is_kept p s.lives w f ≡ false → expiry_at p (Some f) ≡ None
  no_expiry f there unkept = by (slice_get s.lives.lives f.ty.0) refl (not_alive p s.lives w runs.table.safe f unkept)
    where
      by : (life : Option Life) → slice_get s.lives.lives f.ty.0 ≡ life → is_alive p life w.clock f ≡ false → expiry_at p (Some f) ≡ None
      by None at e = absurd (let no : true ≡ false = e in cc)
      by (Some Plain) at e = absurd (let no : true ≡ false = e in cc)
      by (Some (Explicit expiry)) at e = absurd (let no : true ≡ false = sym there ∙ e in cc)
      by (Some (Finite n)) at e =
          ap (λ o. end_by (is_event p f.ty.0) o f.times.start) (runs.table.safe.each f.ty.0 (Finite n) at).1.unexpired ∙ never_ends (is_event p f.ty.0) f.times.start
      by (Some Infinite) at e = absurd (let no : true ≡ false = e in cc)

  stored_too : (tag : ℕ) (f : Fact) → map_of.get store tag ≡ Some f → map_of.get all tag ≡ Some f
  stored_too tag f e = let i = store_holds.to tag f e in ap (map_of.get all) (sym i.1) ∙ all_holds.from f (image_present f i.0)

  wait_alike : (tag : ℕ) → expiry_at p (map_of.get store tag) ≡ expiry_at p (map_of.get all tag)
  wait_alike tag = by (map_of.get store tag) (map_of.get all tag) refl refl
    where
      by : (a b : Option Fact) → map_of.get store tag ≡ a → map_of.get all tag ≡ b → expiry_at p (map_of.get store tag) ≡ expiry_at p (map_of.get all tag)
      by (Some f) b e h = ap (expiry_at p) (e ∙ sym (stored_too tag f e))
      by None None e h = ap (expiry_at p) (e ∙ sym h)
      by None (Some f) e h =
          let i = all_holds.to tag f h in
          let there = of_filter (is_present p w.clock) f w.facts i.0 in
          let unkept : is_kept p s.lives w f ≡ false = sym (stored_kept f there) ∙ ap is_some (ap (map_of.get store) i.1 ∙ e) in
          ap (expiry_at p) e ∙ sym (ap (expiry_at p) h ∙ no_expiry f (passed (is_present p w.clock) f w.facts i.0) unkept)

  -- ---- the session

  abbrev course : Course
  course = record { last_starts = image.last_starts; promises = image.promises; begun = image.begun }

  module _ (expiries : Timers) (marks : Marks) where
    abbrev k : Contents
    k = contents store expiries image.clock course marks image.next_id image.next_tag

    mirrors : ((tag : ℕ) → map_of.get expiries tag ≡ expiry_at p (map_of.get store tag)) → Mirrors p (with_facts k all) (only_present p w)
    mirrors waits = record {
      facts = all_at;
      waits = λ tag. waits tag ∙ wait_alike tag;
      clock = is.clock;
      reached = reached_is;
      begun = is.begun;
      next_id = is.next_id;
      next_tag = is.next_tag;
    }

    are_forgotten : AreForgotten k all forgotten
    are_forgotten = record {
      held = stored_too;
      known = λ tag f e. lost_is f (in_world tag f e) ∙ ap (λ t. not (is_some (map_of.get store t))) (all_holds.to tag f e).1;
      below = λ who e.
          let f = lost p s.lives w who e in
          let low : f.fact.tag.0 < w.next_tag = below_of w.next_tag w.facts l.ordered.fresh f.fact f.inside in
          let same : f.fact.tag.0 ≡ who.tag.0 = ap (λ (n : Named). n.tag.0) f.named in
          let next : image.next_tag ≡ w.next_tag = is.next_tag in
          omega (arith, low, same, next);
    }

  pub restored_stands : (owners : ℕ → ℕ → ℕ) → AreOwners p owners → (net : Rete) (marks : Marks) → IsMatched p image net marks
      → (expiries : Timers) (before after : Retention) (old : ℕ → Bool) → AreHeld p s.lives store expiries before
      → PassesLives image.clock (is_tag_among []) (is_named marks) before after old → ((tag : ℕ) → old tag ≡ false)
      → Standing s (record { net = net; retention = after }) (k expiries marks) w
  restored_stands owners own net marks are expiries before after old are_held passes none = record {
    seen = record {
      all = all;
      whole = record { lawful = l; mirrors = mirrors expiries marks are_held.waits };
      forgotten = forgotten;
      are = are_forgotten expiries marks;
      stands = are.stands behind forgotten is_behind;
      saliences = are.salient;
    };
    holds = holds_kept_parts p s.lives w image runs.table.safe l is once owners own marks (are.marked owners own) expiries before after old are_held passes none;
  }
