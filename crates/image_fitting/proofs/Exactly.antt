-- An image fits plainly exactly where it does part by part.
use Rattle.image_fitting.proofs.Common.{◌≡◌, ◌↔◌, ◌∙◌, ◌&&◌, ◌==◌, ℕ, zero, suc, ◌<◌, ◌≤◌, ◌^◌, ℤ, pos, ◌+ℤ◌, ◌≤ℤ◌, Bool, true, false, if◌then◌else◌, List, []}
use Rattle.image_fitting.proofs.Common.{◌∷◌, length, replicate, IsTrue, refl, sym, ap, subst, arith, inl, inr, nat_lt, int_le, slice_get, Less, Equal, All}
use Rattle.image_fitting.proofs.Common.{nat_cmp, ints, length-replicate, In, Fact, Image, LifeTable, Program, is_event, values_fit, IsLawful, world_of}
use Rattle.image_fitting.proofs.Common.{IsForgettable, FitByParts, FitsPlainly, nat_le, list_all, int_eq, tied_itself, get_or-replicate, is_present, is_point}
use Rattle.image_fitting.proofs.Common.{fact_fits, IsTimed, IsSoundFact, EventsInOrder, IsNextNumber, tag_cmp, is_small, is_next, is_reached, ends_as_its_type}
use Rattle.image_fitting.proofs.{Common.{is_event_short, is_lasting, is_timed, times_fit, is_at_hand}, Turning.{StartInTurn, StartFrom, turn_says, turn_holds}}
use Rattle.{image_fitting.specs.Orders.{tag_total}, std.proofs.lemmas.Bool.{and_from, and_parts, eq-eqb, eqb-true, le-leb, leb-true, lt-ltb, ltb-true}}
use Rattle.{std.{specs.List.Sorted.{IsStrictlySortedBy}, proofs.lemmas.List.Elements.{All-head, All-tail}}, fx_base.specs.declared.ids.Tag.{Tag}}
use Rattle.fx_base.{specs.declared.times.Times.{Times}, proofs.{Orders.{int_eq-true, int_le-true, le-int_le, nat_cmp-Less}, Sequences.{All-from_In}}}
use Rattle.{fx_base.proofs.Sequences.{list_all-In, list_all-from}, rule_model.{specs.Moments.{moment_in}, proofs.Sorted.{below_each, sorted_marked}}}
use Rattle.rule_world.{specs.Events.{most_millis, no_times}, proofs.{Fresh.{below_of, below_all}, Ids.{under_all, id_number, id_below}}}

-- ---- tests of numbers

is_same : (a b : ℤ) → a ≡ b → int_eq a b ≡ true
is_same a b e = grind (arith, ints)

-- ---- tests of lists

moment_at : (test : ℤ → Bool) (xs : List ℤ) → test (pos 0) ≡ true → list_all test xs ≡ true → (k : ℕ) → test (moment_in xs k) ≡ true
moment_at test [] z e k = z
moment_at test (x ∷ xs) z e zero = (and_parts (test x) (list_all test xs) e).0
moment_at test (x ∷ xs) z e (suc k) = moment_at test xs z (and_parts (test x) (list_all test xs) e).1 k

at_moment : (test : ℤ → Bool) (xs : List ℤ) → ((k : ℕ) → test (moment_in xs k) ≡ true) → list_all test xs ≡ true
at_moment test [] h = refl
at_moment test (x ∷ xs) h = and_from (test x) (list_all test xs) (h zero) (at_moment test xs (λ k. h (suc k)))

in_all : {A : Type 0} (P : A → Type 0) (xs : List A) → All P xs → (x : A) → In x xs → P x
in_all P [] h x i = absurd i
in_all P (y ∷ xs) h x (inl same) = subst P (sym same) (All-head P y xs h)
in_all P (y ∷ xs) h x (inr i) = in_all P xs (All-tail P y xs h) x i

-- ---- numbers and moments

next_is : (n : ℕ) → IsNextNumber n → is_next n ≡ true
next_is n h = and_from (nat_le 1 n) (is_small n) (le-leb 1 n h.0) (le-leb n (2 ^ 61) h.1)

is_next_number : (n : ℕ) → is_next n ≡ true → IsNextNumber n
is_next_number n e = let r = and_parts (nat_le 1 n) (is_small n) e in (leb-true 1 n r.0, leb-true n (2 ^ 61) r.1)

reached_is : (most moment : ℤ) → pos 0 ≤ℤ moment → moment ≤ℤ most → is_reached most moment ≡ true
reached_is most moment low high = and_from (int_le (pos 0) moment) (int_le moment most) (le-int_le (pos 0) moment low) (le-int_le moment most high)

is_reached_at : (most moment : ℤ) → is_reached most moment ≡ true → (pos 0 ≤ℤ moment) × (moment ≤ℤ most)
is_reached_at most moment e = let r = and_parts (int_le (pos 0) moment) (int_le moment most) e in (int_le-true (pos 0) moment r.0, int_le-true moment most r.1)

-- ---- times

abbrev times_by : ℤ → ℤ → Times
times_by start end = record { start = start; end = end }

ends_is : (point : Bool) (times : Times) → (point ≡ true → times.end ≡ times.start) → ends_as_its_type point times ≡ true
ends_is true times h = is_same times.end times.start (h refl)
ends_is false times h = refl

is_ending : (point : Bool) (times : Times) → ends_as_its_type point times ≡ true → point ≡ true → times.end ≡ times.start
is_ending true times e h = int_eq-true times.end times.start e
is_ending false times e h = absurd (let n : false ≡ true = h in cc)

module _ (p : Program) (image : Image) (f : Fact) where
  abbrev last : ℤ
  last = moment_in image.last_starts f.entry.0

  timed_is : IsTimed p (world_of image) f → is_timed (is_point p f.ty.0) image.clock last f.times ≡ true
  timed_is x =
      and_from (is_reached image.clock f.times.start) _ (reached_is image.clock f.times.start x.from_zero x.to_clock)
      (and_from (int_le f.times.start last) _ (le-int_le f.times.start last x.to_last)
      (and_from (int_le f.times.start f.times.end) _ (le-int_le f.times.start f.times.end x.event.ordered)
      (and_from (ends_as_its_type (is_point p f.ty.0) f.times) (is_event_short f.times) (ends_is (is_point p f.ty.0) f.times x.event.ends) (le-int_le f.times.end (f.times.start +ℤ most_millis) x.short))))

  is_timed_at : is_timed (is_point p f.ty.0) image.clock last f.times ≡ true → IsTimed p (world_of image) f
  is_timed_at e =
      let ends = ends_as_its_type (is_point p f.ty.0) f.times in
      let a = and_parts (is_reached image.clock f.times.start) (int_le f.times.start last && is_lasting (is_point p f.ty.0) f.times) e in
      let b = and_parts (int_le f.times.start last) (is_lasting (is_point p f.ty.0) f.times) a.1 in
      let c = and_parts (int_le f.times.start f.times.end) (ends && is_event_short f.times) b.1 in
      let d = and_parts ends (is_event_short f.times) c.1 in
      let reached = is_reached_at image.clock f.times.start a.0 in
      record {
        from_zero = reached.0;
        to_clock = reached.1;
        to_last = int_le-true f.times.start last b.0;
        event = record { ordered = int_le-true f.times.start f.times.end c.0; ends = is_ending (is_point p f.ty.0) f.times d.0 };
        short = int_le-true f.times.end (f.times.start +ℤ most_millis) d.1;
      }

  -- the two ways of a fact's times
  abbrev of_event : Bool
  of_event = image.begun && is_timed (is_point p f.ty.0) image.clock last f.times

  abbrev of_plain : Bool
  of_plain = int_eq f.times.start (pos 0) && int_eq f.times.end (pos 0)

  times_of_event : is_event p f.ty.0 ≡ true → times_fit p image f ≡ of_event
  times_of_event e = ap (λ b. if b then of_event else of_plain) e

  times_of_plain : is_event p f.ty.0 ≡ false → times_fit p image f ≡ of_plain
  times_of_plain e = ap (λ b. if b then of_event else of_plain) e

  event_parts : times_fit p image f ≡ true → is_event p f.ty.0 ≡ true → (image.begun ≡ true) × IsTimed p (world_of image) f
  event_parts e is =
      let r = and_parts image.begun (is_timed (is_point p f.ty.0) image.clock last f.times) (sym (times_of_event is) ∙ e) in
      (r.0, is_timed_at r.1)

  plain_times : times_fit p image f ≡ true → is_event p f.ty.0 ≡ false → f.times ≡ no_times
  plain_times e is =
      let r = and_parts (int_eq f.times.start (pos 0)) (int_eq f.times.end (pos 0)) (sym (times_of_plain is) ∙ e) in
      ap (λ start. times_by start f.times.end) (int_eq-true f.times.start (pos 0) r.0) ∙ ap (times_by (pos 0)) (int_eq-true f.times.end (pos 0) r.1)

  times_are : IsSoundFact p (world_of image) f → (image.begun ≡ false → is_event p f.ty.0 ≡ false) → times_fit p image f ≡ true
  times_are x unbegun = by (is_event p f.ty.0) refl
    where
      begun : (b : Bool) → image.begun ≡ b → is_event p f.ty.0 ≡ true → b ≡ true
      begun true at is = refl
      begun false at is = absurd (let n : true ≡ false = sym is ∙ unbegun at in cc)

      by : (b : Bool) → is_event p f.ty.0 ≡ b → times_fit p image f ≡ true
      by true is = times_of_event is ∙ and_from image.begun (is_timed (is_point p f.ty.0) image.clock last f.times) (begun image.begun refl is) (timed_is (x.timed is))
      by false is =
          times_of_plain is
          ∙ and_from (int_eq f.times.start (pos 0)) (int_eq f.times.end (pos 0)) (is_same f.times.start (pos 0) (ap (λ (t : Times). t.start) (x.plain is))) (is_same f.times.end (pos 0) (ap (λ (t : Times). t.end) (x.plain is)))

  -- what is asked of each fact alone
  pub record IsThere : Type 0 where
    pub id : f.id.0 < image.next_id
    pub tag : f.tag.0 < image.next_tag
    pub fits : fact_fits p f ≡ true
    pub present : is_present p image.clock f ≡ true
    pub times : times_fit p image f ≡ true

  there_is : IsThere → is_at_hand p image f ≡ true
  there_is x =
      and_from (nat_lt f.id.0 image.next_id) _ (lt-ltb f.id.0 image.next_id x.id)
      (and_from (nat_lt f.tag.0 image.next_tag) _ (lt-ltb f.tag.0 image.next_tag x.tag)
      (and_from (fact_fits p f) _ x.fits (and_from (is_present p image.clock f) (times_fit p image f) x.present x.times)))

  is_there : is_at_hand p image f ≡ true → IsThere
  is_there e =
      let a = and_parts (nat_lt f.id.0 image.next_id) (nat_lt f.tag.0 image.next_tag && (fact_fits p f && (is_present p image.clock f && times_fit p image f))) e in
      let b = and_parts (nat_lt f.tag.0 image.next_tag) (fact_fits p f && (is_present p image.clock f && times_fit p image f)) a.1 in
      let c = and_parts (fact_fits p f) (is_present p image.clock f && times_fit p image f) b.1 in
      let d = and_parts (is_present p image.clock f) (times_fit p image f) c.1 in
      record { id = ltb-true f.id.0 image.next_id a.0; tag = ltb-true f.tag.0 image.next_tag b.0; fits = c.0; present = d.0; times = d.1 }

-- ---- facts in order

tags_apart : (f g : Fact) → tag_cmp f g ≡ Less → f.tag ≡ g.tag → ⊥
tags_apart f g d e =
    let same : tag_cmp f g ≡ tag_cmp g g = ap (λ (t : Tag). nat_cmp t.0 g.tag.0) e in
    absurd (let n : Less ≡ Equal = sym d ∙ same ∙ tied_itself tag_total g in cc)

starts : (p : Program) (facts : List Fact) → EventsInOrder p facts → StartInTurn p facts
starts p [] o = tt
starts p (f ∷ facts) o = (λ g i is also same. (o.0 g i).starts is also same, starts p facts o.1)

events : (p : Program) (facts : List Fact) → IsStrictlySortedBy tag_cmp facts → StartInTurn p facts → EventsInOrder p facts
unfolding IsStrictlySortedBy
events p [] s t = tt
events p (f ∷ facts) s t = (
  λ g i. record { tags = λ is also. nat_cmp-Less f.tag.0 g.tag.0 (below_each tag_cmp tag_total f facts s.0 g i); starts = t.0 g i },
  events p facts s.1 t.1,
)

-- ---- the image

module _ (p : Program) (table : LifeTable) (image : Image) where
  abbrev zeros : List ℤ
  zeros = replicate (length p.entries) (pos 0)

  starts_from_zero : IsLawful p (world_of image) → StartFrom p zeros image.facts
  starts_from_zero l f i is =
      let fitting = and_parts (values_fit (slice_get p.types f.ty.0) f.fields) (nat_lt f.entry.0 (length p.entries)) (l.sound f i).fits in
      let inside : f.entry.0 < length p.entries = ltb-true f.entry.0 (length p.entries) fitting.1 in (
        subst (λ n. f.entry.0 < n) (sym (length-replicate (length p.entries) (pos 0))) inside,
        subst (λ z. z ≤ℤ f.times.start) (sym (get_or-replicate (length p.entries) f.entry.0 (pos 0) (pos 0) inside)) ((l.sound f i).timed is).from_zero,
      )

  fact_there : FitsPlainly p table image → (f : Fact) → In f image.facts → IsThere p image f
  fact_there x f i = record {
    id = id_below image.next_id image.facts f x.lawful.ordered.fresh_ids i;
    tag = below_of image.next_tag image.facts x.lawful.ordered.fresh f i;
    fits = (x.lawful.sound f i).fits;
    present = x.present f i;
    times = times_are p image f (x.lawful.sound f i) (λ b. x.lawful.unbegun b f i);
  }

  pub to_parts : FitsPlainly p table image → FitByParts p table image
  to_parts x = record {
    distinct = x.lawful.ordered.ids;
    in_turn = turn_holds p zeros image.facts (starts p image.facts x.lawful.events) (starts_from_zero x.lawful);
    alone = record {
      numbers = record {
        counts = and_from (is_next image.next_id) _ (next_is image.next_id x.next_id)
            (and_from (is_next image.next_tag) _ (next_is image.next_tag x.next_tag)
            (and_from (is_small image.run.lines) (is_small image.run.firings) (le-leb image.run.lines (2 ^ 61) x.lines) (le-leb image.run.firings (2 ^ 61) x.firings)));
        moments = and_from (length image.last_starts == length p.entries) _ (eq-eqb (length image.last_starts) (length p.entries) x.last_starts)
            (and_from (length image.promises == length p.entries) _ (eq-eqb (length image.promises) (length p.entries) x.promises)
            (and_from (is_reached most_millis image.clock) _ (reached_is most_millis image.clock x.lawful.clock_low x.lawful.clock_high)
            (and_from (list_all (is_reached image.clock) image.last_starts) (list_all (is_reached most_millis) image.promises)
            (at_moment (is_reached image.clock) image.last_starts (λ k. reached_is image.clock (moment_in image.last_starts k) (x.lawful.last_low k) (x.lawful.last_high k)))
            (at_moment (is_reached most_millis) image.promises (λ k. reached_is most_millis (moment_in image.promises k) (x.lawful.promise_low k) (x.lawful.promise_high k))))));
        at_hand = list_all-from (is_at_hand p image) image.facts (λ f i. there_is p image f (fact_there x f i));
      };
      orders = record { facts = x.facts_in_order; fired = x.fired_in_order; extras = x.extras_in_order };
      placed = All-from_In (IsForgettable p table) image.extras x.placed;
    };
  }

  module _ (x : FitByParts p table image) where
    there : (f : Fact) → In f image.facts → IsThere p image f
    there f i = is_there p image f (list_all-In (is_at_hand p image) image.facts x.alone.numbers.at_hand f i)

    -- the moments of an image that fits
    pub record MomentsFit : Type 0 where
      pub last_starts : length image.last_starts ≡ length p.entries
      pub promises : length image.promises ≡ length p.entries
      pub clock : (pos 0 ≤ℤ image.clock) × (image.clock ≤ℤ most_millis)
      pub last_at : (k : ℕ) → (pos 0 ≤ℤ moment_in image.last_starts k) × (moment_in image.last_starts k ≤ℤ image.clock)
      pub promise_at : (k : ℕ) → (pos 0 ≤ℤ moment_in image.promises k) × (moment_in image.promises k ≤ℤ most_millis)

    moments : MomentsFit
    moments =
        let lasts = list_all (is_reached image.clock) image.last_starts in
        let promised = list_all (is_reached most_millis) image.promises in
        let a = and_parts (length image.last_starts == length p.entries) ((length image.promises == length p.entries) && (is_reached most_millis image.clock && (lasts && promised))) x.alone.numbers.moments in
        let b = and_parts (length image.promises == length p.entries) (is_reached most_millis image.clock && (lasts && promised)) a.1 in
        let c = and_parts (is_reached most_millis image.clock) (lasts && promised) b.1 in
        let d = and_parts lasts promised c.1 in
        let clock = is_reached_at most_millis image.clock c.0 in
        record {
          last_starts = eqb-true (length image.last_starts) (length p.entries) a.0;
          promises = eqb-true (length image.promises) (length p.entries) b.0;
          clock = clock;
          last_at = λ k. is_reached_at image.clock (moment_in image.last_starts k)
              (moment_at (is_reached image.clock) image.last_starts (reached_is image.clock (pos 0) (zero_most (pos 0)) clock.0) d.0 k);
          promise_at = λ k. is_reached_at most_millis (moment_in image.promises k)
              (moment_at (is_reached most_millis) image.promises (reached_is most_millis (pos 0) (zero_most (pos 0)) (through (pos 0) image.clock most_millis clock.0 clock.1)) d.1 k);
        }
      where
        zero_most : (a : ℤ) → a ≤ℤ a
        zero_most a = omega (arith, ints)

        through : (a b c : ℤ) → a ≤ℤ b → b ≤ℤ c → a ≤ℤ c
        through a b c h k = omega (arith, ints)

    lawful : IsLawful p (world_of image)
    lawful = record {
      ordered = record {
        ids = x.distinct;
        fresh_ids = under_all id_number image.next_id image.facts (λ f i. (there f i).id);
        tags = sorted_marked tag_cmp tag_total (λ (f : Fact). f.tag) tags_apart image.facts x.alone.orders.facts;
        fresh = below_all image.next_tag image.facts (λ f i. (there f i).tag);
        fired = λ m e. absurd (let n : false ≡ true = e in cc);
      };
      once = tt;
      clock_low = moments.clock.0;
      clock_high = moments.clock.1;
      last_low = λ k. (moments.last_at k).0;
      last_high = λ k. (moments.last_at k).1;
      promise_low = λ k. (moments.promise_at k).0;
      promise_high = λ k. (moments.promise_at k).1;
      sound = λ f i. record {
        fits = (there f i).fits;
        timed = λ is. (event_parts p image f (there f i).times is).1;
        plain = λ is. plain_times p image f (there f i).times is;
      };
      events = events p image.facts x.alone.orders.facts (turn_says p zeros image.facts x.in_turn).0;
      unbegun = λ b f i. not_event f i b (is_event p f.ty.0) refl;
    }
      where
        not_event : (f : Fact) → In f image.facts → image.begun ≡ false → (b : Bool) → is_event p f.ty.0 ≡ b → is_event p f.ty.0 ≡ false
        not_event f i b true is = absurd (let n : true ≡ false = sym (event_parts p image f (there f i).times is).0 ∙ b in cc)
        not_event f i b false is = is

    pub of_parts : FitsPlainly p table image
    of_parts =
        let small = is_small image.run.lines && is_small image.run.firings in
        let a = and_parts (is_next image.next_id) (is_next image.next_tag && small) x.alone.numbers.counts in
        let b = and_parts (is_next image.next_tag) small a.1 in
        let c = and_parts (is_small image.run.lines) (is_small image.run.firings) b.1 in
        record {
          last_starts = moments.last_starts;
          promises = moments.promises;
          next_id = is_next_number image.next_id a.0;
          next_tag = is_next_number image.next_tag b.0;
          lines = leb-true image.run.lines (2 ^ 61) c.0;
          firings = leb-true image.run.firings (2 ^ 61) c.1;
          lawful = lawful;
          present = λ f i. (there f i).present;
          facts_in_order = x.alone.orders.facts;
          fired_in_order = x.alone.orders.fired;
          extras_in_order = x.alone.orders.extras;
          placed = in_all (IsForgettable p table) image.extras x.alone.placed;
        }

pub exact_is : (p : Program) (table : LifeTable) (image : Image) (r : Bool) → IsTrue r ↔ FitByParts p table image → IsTrue r ↔ FitsPlainly p table image
exact_is p table image r is = (λ e. of_parts p table image (is.0 e), λ x. is.1 (to_parts p table image x))
