-- The world behind the change: lawful, and alike.
use Rattle.rule_change.proofs.Common.{◌≡◌, ◌&&◌, ◌<◌, ◌≤ℤ◌, pos, ℕ, ℤ, Bool, true, false, List, [], ◌∷◌, map, Option, Some, None, inl, inr, refl, sym, ◌∙◌, ap}
use Rattle.rule_change.proofs.Common.{ap₂, subst, arith, and_from, and_parts, lt-ltb, slice_get_within, map-map, filter, length, slice_get, nat_lt, get-below}
use Rattle.rule_change.proofs.Common.{In, EachOnce, Fact, Value, match_exact, of_map, once_filter, HaveDistinctTags, match_equiv, matches, has_match, Snapshot}
use Rattle.rule_change.proofs.Common.{is_event, Match, Program, TypeInfo, most_millis, values_fit, have_kinds, IsLawful, IsSoundFact, FollowedBy, EventsInOrder}
use Rattle.rule_change.proofs.Common.{World, snapshot, moved_world, moved_fact, new_type, new_entry, entry_in, moment_or_zero, is_marked, was_fired, as_old}
use Rattle.rule_change.{proofs.{Common.{AreAlike, AreOver, AlikeAtChange}, Places.{Moves, same_event, same_point, entries_apart}}, specs.Changed.{changed}}
use Rattle.{rule_change.proofs.{Rows.{HasPlace, AreMoved}, Matching.{matches_once, same_match, lawful_places, over_moves}}, std.proofs.lemmas.Int.{ints}}
use Rattle.{std.proofs.lemmas.Map.{Made.{is_member-filter}, Views.{tells_apart}}, fx_base.specs.declared.ids.Tag.{Tag}, temporal_ops.specs.Possible.{IsEvent}}
use Rattle.rule_world.proofs.{Fresh.{below_of, below_all}, Ids.{ids_mapped, ids_below_mapped}}

-- whether a match is among those that pass
pub filtered : (test : Match → Bool) (m : Match) (ms : List Match) → has_match (filter test ms) m ≡ (has_match ms m && test m)
filtered test m ms = is_member-filter match_equiv test m (λ x e. ap test (tells_apart match_exact m x e)) ms

implied : (a b : Bool) → (b ≡ true → a ≡ true) → (a && b) ≡ b
implied true b h = refl
implied false true h = h refl
implied false false h = refl

moment_has : (Has : ℤ → Type 0) (moment : ℕ → ℤ) (entry : Option ℕ) → Has (pos 0) → ((e : ℕ) → Has (moment e)) → Has (moment_or_zero moment entry)
moment_has Has moment None zero each = zero
moment_has Has moment (Some e) zero each = each e

module _ (p q : Program) (m : Moves p q) where
  -- values of the kinds that the old type declares have those of the new one
  values_moved : (ty : ℕ) (values : List Value) → ty < length p.types → values_fit (slice_get p.types ty) values ≡ true → values_fit (slice_get q.types (new_type p q ty)) values ≡ true
  values_moved ty values lt fit =
      let t = get-below p.types ty lt in
      let u = m.type_is ty t.0 t.1 in
      ap (λ (o : Option TypeInfo). values_fit o values) u.1 ∙ ap (λ fields. have_kinds fields values) (sym u.2.fields) ∙ sym (ap (λ (o : Option TypeInfo). values_fit o values) t.1) ∙ fit

  entry_moved : (entry : ℕ) → entry < length p.entries → new_entry p q entry < length q.entries
  entry_moved entry lt = let e = get-below p.entries entry lt in slice_get_within q.entries (new_entry p q entry) e.0 (m.entry_is entry e.0 e.1)

  module _ (w w' : World) (clock : w'.clock ≡ w.clock)
      (last : (entry : ℕ) → entry < length p.entries → w'.reached.last_start (new_entry p q entry) ≡ w.reached.last_start entry) where
    sound_moved : (f : Fact) → HasPlace p f → IsSoundFact p w f → IsSoundFact q w' (moved_fact p q f)
    sound_moved f at sound = record {
      fits =
          (let fit = and_parts (values_fit (slice_get p.types f.ty.0) f.fields) (nat_lt f.entry.0 (length p.entries)) sound.fits in
          and_from (values_fit (slice_get q.types (new_type p q f.ty.0)) f.fields) (nat_lt (new_entry p q f.entry.0) (length q.entries))
          (values_moved f.ty.0 f.fields at.type fit.0) (lt-ltb (new_entry p q f.entry.0) (length q.entries) (entry_moved f.entry.0 at.entry)));
      timed = λ e.
          let t = sound.timed (sym (same_event p q m f.ty.0 at.type) ∙ e) in
          record {
            from_zero = t.from_zero;
            to_clock = subst (λ (c : ℤ). f.times.start ≤ℤ c) (sym clock) t.to_clock;
            to_last = subst (λ (c : ℤ). f.times.start ≤ℤ c) (sym (last f.entry.0 at.entry)) t.to_last;
            event = subst (λ (b : Bool). IsEvent b f.times) (sym (same_point p q m f.ty.0 at.type)) t.event;
            short = t.short;
          };
      plain = λ e. sound.plain (sym (same_event p q m f.ty.0 at.type) ∙ e);
    }

  followed_moved : (f g : Fact) → HasPlace p f → HasPlace p g → FollowedBy p f g → FollowedBy q (moved_fact p q f) (moved_fact p q g)
  followed_moved f g at there by = record {
    tags = λ e h. by.tags (sym (same_event p q m f.ty.0 at.type) ∙ e) (sym (same_event p q m g.ty.0 there.type) ∙ h);
    starts = λ e h same.
        by.starts (sym (same_event p q m f.ty.0 at.type) ∙ e) (sym (same_event p q m g.ty.0 there.type) ∙ h) (entries_apart p q m f.entry.0 g.entry.0 at.entry there.entry same);
  }

  events_moved : (facts : List Fact) → ((f : Fact) → In f facts → HasPlace p f) → EventsInOrder p facts → EventsInOrder q (map (moved_fact p q) facts)
  events_moved [] at order = tt
  events_moved (f ∷ facts) at order = (
    λ g i.
        let r = of_map (moved_fact p q) g facts i in
        subst (FollowedBy q (moved_fact p q f)) r.2 (followed_moved f r.0 (at f (inl refl)) (at r.0 (inr r.1)) (order.0 r.0 r.1)),
    events_moved facts (λ g i. at g (inr i)) order.1,
  )

  tags_moved : (facts : List Fact) → HaveDistinctTags facts → HaveDistinctTags (map (moved_fact p q) facts)
  tags_moved facts d = subst (λ (tags : List Tag). EachOnce tags) (sym (map-map (λ (f : Fact). f.tag) (moved_fact p q) facts)) d

module _ (p q : Program) (from : ℕ → Option ℕ) (w : World) (over : AreOver p q from) (l : IsLawful p w) where
  abbrev m : Moves p q
  m = over_moves p q from over

  abbrev s : Snapshot
  s = snapshot w

  abbrev o : Snapshot
  o = snapshot (moved_world p q w)

  last_moved : (entry : ℕ) → entry < length p.entries → o.reached.last_start (new_entry p q entry) ≡ w.reached.last_start entry
  last_moved entry lt = ap (moment_or_zero w.reached.last_start) (m.entry_back entry lt)

  are_moved : AreMoved p q m s o
  are_moved = record {
    places = lawful_places p w l;
    facts = refl;
    clock = refl;
    last_starts = last_moved;
    promises = λ entry lt. ap (moment_or_zero w.reached.promise) (m.entry_back entry lt);
  }

  fired_moved : (n : Match) (old : ℕ) → from n.rule.0 ≡ Some old → has_match (filter (is_marked from w.fired) (matches q o)) n ≡ has_match w.fired (as_old old n)
  fired_moved n old e =
      filtered (is_marked from w.fired) n (matches q o)
      ∙ ap₂ (λ (a b : Bool). a && b) (same_match p q m over.places s o are_moved n old (over.are_from.same n.rule.0 old e)) (ap (was_fired w.fired n) e)
      ∙ implied (has_match (matches p s) (as_old old n)) (has_match w.fired (as_old old n)) (l.ordered.fired (as_old old n))

  alike_changed : AreAlike p q from w (changed p q from w)
  unfolding changed
  alike_changed =
      record { facts = refl; clock = refl; begun = refl; next_id = refl; next_tag = refl; last_starts = last_moved; promises = are_moved.promises; fired = fired_moved }

  lawful_changed : IsLawful q (changed p q from w)
  unfolding changed
  lawful_changed =
      record {
        ordered = record {
          ids = ids_mapped (moved_fact p q) (λ f. refl) w.facts l.ordered.ids;
          fresh_ids = ids_below_mapped (moved_fact p q) (λ f. refl) w.facts w.next_id l.ordered.fresh_ids;
          tags = tags_moved p q m w.facts l.ordered.tags;
          fresh =
              below_all w.next_tag (map (moved_fact p q) w.facts) (λ f i.
              let r = of_map (moved_fact p q) f w.facts i in
              subst (λ (g : Fact). g.tag.0 < w.next_tag) r.2 (below_of w.next_tag w.facts l.ordered.fresh r.0 r.1));
          fired = λ n e. (and_parts (has_match (matches q o) n) (is_marked from w.fired n) (sym (filtered (is_marked from w.fired) n (matches q o)) ∙ e)).0;
        };
        once = once_filter (is_marked from w.fired) (matches q o) (matches_once q o (tags_moved p q m w.facts l.ordered.tags));
        clock_low = l.clock_low;
        clock_high = l.clock_high;
        last_low = λ entry. moment_has (λ moment. pos 0 ≤ℤ moment) w.reached.last_start (entry_in q p entry) (omega (arith, ints)) l.last_low;
        last_high = λ entry. moment_has (λ moment. moment ≤ℤ w.clock) w.reached.last_start (entry_in q p entry) l.clock_low l.last_high;
        promise_low = λ entry. moment_has (λ moment. pos 0 ≤ℤ moment) w.reached.promise (entry_in q p entry) (omega (arith, ints)) l.promise_low;
        promise_high = λ entry. moment_has (λ moment. moment ≤ℤ most_millis) w.reached.promise (entry_in q p entry) (let low = l.clock_low in let high = l.clock_high in omega (arith, ints)) l.promise_high;
        sound = λ f i.
            let r = of_map (moved_fact p q) f w.facts i in
            subst (IsSoundFact q (changed p q from w)) r.2 (sound_moved p q m w (changed p q from w) refl last_moved r.0 (are_moved.places r.0 r.1) (l.sound r.0 r.1));
        events = events_moved p q m w.facts are_moved.places l.events;
        unbegun = λ b f i.
            let r = of_map (moved_fact p q) f w.facts i in
            subst (λ (g : Fact). is_event q g.ty.0 ≡ false) r.2 (same_event p q m r.0.ty.0 (are_moved.places r.0 r.1).type ∙ l.unbegun b r.0 r.1);
      }

pub alike_at_change : AlikeAtChange
alike_at_change p q from w over l = (lawful_changed p q from w over l, alike_changed p q from w over l)
