-- A retraction of an event that a session does not have: the world has none that is present, or it is forgotten.
use Rattle.session_model.proofs.Common.{◌≡◌, ◌∙◌, ◌<◌, ◌==◌, ◌&&◌, ◌≤ℤ◌, not, ℕ, ℤ, Bool, true, false, cond, nat_eq, List, Option, Some, None, inl, refl, sym}
use Rattle.session_model.proofs.Common.{ap, subst, arith, filter, nat_tests, ints, In, Fact, FactId, TypeId, HeldFacts, IsNewest, facts_of, from_list, from_map}
use Rattle.session_model.proofs.Common.{tags_rise, Row, has, Life, Plain, Explicit, Finite, Infinite, Program, Rule, Step, Retract, is_present}
use Rattle.session_model.proofs.Common.{HaveDistinctTags, HaveDistinctIds, has_match, pattern_of, Snapshot, name_of, is_event, is_observed, expiry_of, AllOf}
use Rattle.session_model.proofs.Common.{of_filter, in_filter, passed, in_place, end_by, IsLawful, World, found, has_id, is_of_type, only_present, present}
use Rattle.session_model.proofs.Common.{retract_fault, found_in, below_of, has_number, one_id, candidate_named, is_alive, lost_event, not_alive, in_no_window}
use Rattle.session_model.proofs.Common.{Covers, IsUnmissed, snapshot_without, NetStands, clean_rows, ends_by, ends_of, only, brought, changed, sight_of, comes}
use Rattle.session_model.proofs.Common.{goes, same_kept, later_covers, own_at, Memory, Setting, IsNewestTag, newest, over, AreForgotten, Awaits, Contents}
use Rattle.session_model.proofs.Common.{Mirrors, Runs, Standing, expiry_at, holding, with_facts, reached_of, HaveOwnTags, without_timer}
use Rattle.std.{proofs.lemmas.Bool.{and_from, and_parts, eq-eqb, eqb-true, false_from_ne_true}, specs.Prelude.{is_some, slice_get}}
use Rattle.life_laws.proofs.Moves.{retracted_is_not_observed}
use Rattle.std.specs.FinMap as map
use Rattle.{rule_model.specs.Simple.{is_observed_in}, rule_world.{specs.Worlds.{step_fault, stepped, moved}, proofs.Vain.{vain_retraction}}}
use Rattle.{pattern_gate.proofs.Arriving.{is_other}, kept_meaning.specs.Kept.{is_kept}, rete_net.proofs.Unmissed.{net_less, clean_rows_less}}
use Rattle.session_model.proofs.{Exactly.{Exact, exact, after_without}, Members.{Holds, held_distinct, is_out, not_out, of_remove}, Newest.{holds}}
use Rattle.session_model.proofs.{Newest.{newest_found, world_found}, Rising.{rising_filter, rising_same}, Rules.{not_refreshed}, Stands.{retract_moves}}
use Rattle.{session_model.proofs.Taken.{taken_awaits}, fx_base.proofs.Tests.{both_ways_absurd}}

-- a fact of a map is the newest of its id where the ids of the map's facts differ
newest_in : (held : HeldFacts) (facts : List Fact) → HaveDistinctIds facts → ((tag : ℕ) (g : Fact) → map.get held tag ≡ Some g → In g facts × (g.tag.0 ≡ tag))
    → (id : ℕ) (f : Fact) → In f facts → f.id.0 ≡ id → map.get held f.tag.0 ≡ Some f → IsNewest held id f
newest_in held facts ids inside id f i own at = record {
  found = at;
  own = own;
  greatest = λ tag g e h.
      let j = inside tag g e in
      let s : g ≡ f = one_id facts g f ids j.0 i (h ∙ sym own) in
      let t : tag ≡ f.tag.0 = sym j.1 ∙ ap (λ (z : Fact). z.tag.0) s in
      omega arith;
}

not_after : (a b : ℤ) → a ≡ b → b ≤ℤ a
not_after a b e = omega (arith, ints)

not_chosen : (b : Bool) (f : Fact) → None ≡ cond b (Some f) None → b ≡ false
not_chosen true f e = absurd cc
not_chosen false f e = refl

other_part : (a b : Bool) → a ≡ true → false ≡ (a && b) → b ≡ false
other_part true b e h = sym h
other_part false b e h = absurd (let n : false ≡ true = e in cc)

apart_test : (m n : ℕ) → (m ≡ n → ⊥) → not (m == n) ≡ true
apart_test m n h = grind (arith, nat_tests)

test_apart : (m n : ℕ) → not (m == n) ≡ true → n ≡ m → ⊥
test_apart m n e h = grind (arith, nat_tests)

module _ (s : Setting) (m : Memory) (k : Contents) (w : World) (st : Standing s m k w) (runs : Runs s) (ty : TypeId) (id : FactId) (none : step_fault s.program w (Retract ty id) ≡ None)
    (absent : is_of_type ty.0 (newest k id.0) ≡ false) (law : IsLawful s.program (stepped s.program w (Retract ty id))) (left : ℕ → Bool) where
  abbrev p : Program
  p = s.program

  abbrev all : HeldFacts
  all = st.seen.all

  abbrev step : Step
  step = Retract ty id

  abbrev Next : Type 0
  Next = Awaits s m k left (stepped p w step)

  whole : Exact p (with_facts k all) (only_present p w)
  whole = exact p (with_facts k all) w st.seen.whole

  there : Holds all (present p w)
  there = holds p (with_facts k all) (only_present p w) whole

  held_there : (tag : ℕ) (g : Fact) → map.get k.facts tag ≡ Some g → In g (present p w) × (g.tag.0 ≡ tag)
  held_there tag g e = there.to tag g (st.seen.are.held tag g e)

  on_time : w.clock ≤ℤ k.clock
  on_time = not_after k.clock w.clock whole.mirrors.clock

  -- ---- the session has nothing that goes out

  stays : (tag : ℕ) (g : Fact) → map.get k.facts tag ≡ Some g → goes p w step g ≡ false
  stays tag g e = false_from_ne_true (goes p w step g) (λ h.
      let parts = and_parts (g.ty.0 == ty.0) (has_id id.0 g) h in
      let i = held_there tag g e in
      let is : IsNewest k.facts id.0 g =
      newest_in k.facts (present p w) whole.lawful.ordered.ids held_there id.0 g i.0 (has_number id.0 g parts.1) (ap (map.get k.facts) i.1 ∙ e) in
      let low : g.tag.0 < w.next_tag = below_of w.next_tag (present p w) whole.lawful.ordered.fresh g i.0 in
      let is_found : newest k id.0 ≡ Some g = newest_found k.facts id.0 g is k.next_tag (subst (λ n. g.tag.0 < n) (sym whole.mirrors.next_tag) low) in
      let n : true ≡ false = sym parts.0 ∙ ap (is_of_type ty.0) (sym is_found) ∙ absent in
      absurd cc)

  same_store : (tag : ℕ) → map.get k.facts tag ≡ changed (brought (comes p w step) tag) (goes p w step) (map.get k.facts tag)
  same_store tag = by (map.get k.facts tag) refl
    where
      by : (o : Option Fact) → map.get k.facts tag ≡ o → o ≡ only (λ g. not (goes p w step g)) o
      by None e = refl
      by (Some g) e = sym (ap (λ t. cond (not t) (Some g) None) (stays tag g e))

  covered : Covers (ends_of (ends_by s.lives) (map.get k.facts)) k.clock m.retention
  covered = later_covers (ends_by s.lives) (sight_of p w) k.clock (holding k m.retention) st.holds on_time

  -- so its parts are those behind the first phase, where these are the present facts of the next world
  awaits : (next : HeldFacts) → Mirrors p (with_facts k next) (only_present p (stepped p w step)) → AreForgotten k next st.seen.forgotten
      → ((tag : ℕ) (f : Fact) → map.get next tag ≡ Some f → map.get all tag ≡ Some f) → NetStands p m.net (over (facts_of next) k.clock (reached_of k)) st.seen.forgotten
      → ((place : ℕ) (rule : Rule) → slice_get p.rules place ≡ Some rule → (row : Row)
      → has (clean_rows p (over (facts_of next) k.clock (reached_of k)) st.seen.forgotten rule) row ≡ has (clean_rows p (over (facts_of all) k.clock (reached_of k)) st.seen.forgotten rule) row)
      → Next
  awaits next mirrors are was stands same = taken_awaits s m k w st step m k left runs none (record {
    all = next;
    whole = record { lawful = law; mirrors = mirrors };
    are = are;
    later = λ tag f e. inl (was tag f e);
    stands = stands;
    refreshed = not_refreshed p.rules (clean_rows p (over (facts_of all) k.clock (reached_of k)) st.seen.forgotten) (clean_rows p (over (facts_of next) k.clock (reached_of k)) st.seen.forgotten) same k.agenda;
    has_left = λ q tag was_pending is_not named. both_ways_absurd (has_match k.agenda.pending q) was_pending is_not;
    store = same_store;
    covered = covered;
    lingering = λ tag e. e;
  })

  -- ---- the world has no such fact that is present

  same_kept_world : is_of_type ty.0 (found p w id.0) ≡ false → only_present p (stepped p w step) ≡ only_present p w
  same_kept_world e = ap (only_present p) (vain_retraction p w ty id st.seen.whole.lawful.ordered e)

  in_vain : is_of_type ty.0 (found p w id.0) ≡ false → Next
  in_vain e = awaits all (subst (Mirrors p (with_facts k all)) (sym (same_kept_world e)) whole.mirrors) st.seen.are (λ tag f h. h) st.seen.stands (λ place rule at row. refl)

  -- ---- it has one

  module _ (f : Fact) (is : found p w id.0 ≡ Some f) (typed : (f.ty.0 == ty.0) ≡ true) where
    own : HaveOwnTags all
    own tag g e = (there.to tag g e).1

    here : In f (present p w) × (f.id.0 ≡ id.0)
    here = found_in (present p w) id.0 f is

    at_tag : map.get all f.tag.0 ≡ Some f
    at_tag = there.from f here.0

    -- which the session has forgotten
    free : map.get k.facts f.tag.0 ≡ None
    free = by (map.get k.facts f.tag.0) refl
      where
        by : (o : Option Fact) → map.get k.facts f.tag.0 ≡ o → map.get k.facts f.tag.0 ≡ None
        by None e = e
        by (Some g) e =
            let both : Some g ≡ Some f = sym (st.seen.are.held f.tag.0 g e) ∙ at_tag in
            let same : g ≡ f = cc in
            let out : goes p w step g ≡ true = ap (goes p w step) same ∙ and_from (f.ty.0 == ty.0) (has_id id.0 f) typed (eq-eqb f.id.0 id.0 here.1) in
            both_ways_absurd (goes p w step g) out (stays f.tag.0 g e)

    known : st.seen.forgotten (name_of f) ≡ true
    known = st.seen.are.known f.tag.0 f at_tag ∙ ap (λ o. not (is_some o)) free

    inside : In f w.facts
    inside = of_filter (is_present p w.clock) f w.facts here.0

    not_kept : is_kept p s.lives w f ≡ false
    not_kept = not_chosen (is_kept p s.lives w f) f
        (sym free ∙ st.holds.store f.tag.0 ∙ same_kept p s.lives w runs.table.safe st.seen.whole.lawful.ordered f.tag.0
        ∙ ap (only (is_kept p s.lives w)) (own_at w.facts st.seen.whole.lawful.ordered.tags f inside))

    event : is_event p f.ty.0 ≡ true
    event = lost_event p s.lives w runs.table.safe f not_kept

    -- it has no explicit expiry, since it is present
    lasting : expiry_of p f.ty.0 ≡ None
    lasting = by (slice_get s.lives.lives f.ty.0) refl (not_alive p s.lives w runs.table.safe f not_kept)
      where
        by : (life : Option Life) → slice_get s.lives.lives f.ty.0 ≡ life → is_alive p life w.clock f ≡ false → expiry_of p f.ty.0 ≡ None
        by None at e = absurd (let n : true ≡ false = e in cc)
        by (Some Plain) at e = absurd (let n : true ≡ false = e in cc)
        by (Some (Explicit expiry)) at e = both_ways_absurd (is_present p w.clock f) (passed (is_present p w.clock) f w.facts here.0) e
        by (Some (Finite n)) at e = (runs.table.safe.each f.ty.0 (Finite n) at).1.unexpired
        by (Some Infinite) at e = absurd (let n : true ≡ false = e in cc)

    no_fault : retract_fault p ty.0 (found p w id.0) ≡ None
    unfolding step_fault
    no_fault = none

    unobserved : is_observed_in p.rules f.ty.0 ≡ false
    unobserved =
        let same : f.ty.0 ≡ ty.0 = eqb-true f.ty.0 ty.0 typed in
        let unseen : is_observed p f.ty.0 ≡ false =
        ap (is_observed p) same ∙ retracted_is_not_observed p ty.0 (found p w id.0) no_fault (ap (is_event p) (sym same) ∙ event) in
        other_part (is_event p f.ty.0) (is_observed_in p.rules f.ty.0) event (sym unseen ∙ runs.runnable.observed f.ty.0)

    abbrev was : Snapshot
    was = over (facts_of all) k.clock (reached_of k)

    listed : In f (facts_of all)
    listed = from_map all f f.tag.0 at_tag

    distinct : HaveDistinctTags (facts_of all)
    distinct = held_distinct all own

    unmissed : IsUnmissed p was st.seen.forgotten f
    unmissed = record {
      there = listed;
      known = known;
      unobserved = unobserved;
      outside = λ rule in_rules c in_c span at.
          candidate_named p was distinct (pattern_of c) f listed
          ∙ in_no_window p s.lives w runs.table.safe st.seen.whole.lawful f inside not_kept rule in_rules c in_c span at was on_time;
      lasting = lasting;
    }

    -- ---- the present facts without it

    abbrev next : HeldFacts
    next = map.remove all f.tag.0

    was_there : (tag : ℕ) (g : Fact) → map.get next tag ≡ Some g → map.get all tag ≡ Some g
    was_there tag g e = of_remove all g f.tag.0 tag e

    own_next : HaveOwnTags next
    own_next tag g e = own tag g (was_there tag g e)

    to_next : AllOf (facts_of next) (filter (is_other f) (facts_of all))
    to_next g i =
        let j = from_list all g (of_filter (is_other f) g (facts_of all) i) in
        let other = test_apart f.tag.0 g.tag.0 (passed (is_other f) g (facts_of all) i) in
        from_map next g j.0 (not_out all f.tag.0 j.0 (λ e. other (own j.0 g j.1 ∙ e)) ∙ j.1)

    of_next : AllOf (filter (is_other f) (facts_of all)) (facts_of next)
    of_next g i =
        let j = from_list next g i in
        let e = was_there j.0 g j.1 in
        in_filter (is_other f) g (facts_of all)
        (apart_test f.tag.0 g.tag.0 (λ same.
        let n : None ≡ Some g = sym (is_out all f.tag.0) ∙ ap (map.get next) (same ∙ own j.0 g e) ∙ j.1 in
        absurd cc))
        (from_map all g j.0 e)

    same_list : filter (is_other f) (facts_of all) ≡ facts_of next
    same_list = rising_same (filter (is_other f) (facts_of all)) (facts_of next) (rising_filter (is_other f) (facts_of all) (tags_rise all own)) (tags_rise next own_next) to_next of_next

    same_less : snapshot_without was f ≡ over (facts_of next) k.clock (reached_of k)
    same_less = ap (λ (facts : List Fact). over facts k.clock (reached_of k)) same_list

    same_timers : (other : ℕ) → map.get k.expiries other ≡ without_timer k.expiries f.tag.0 other
    same_timers other = by (nat_eq f.tag.0 other) refl
      where
        by : (b : Bool) → nat_eq f.tag.0 other ≡ b → map.get k.expiries other ≡ cond b None (map.get k.expiries other)
        by true e =
            ap (map.get k.expiries) (sym (eqb-true f.tag.0 other e)) ∙ whole.mirrors.waits f.tag.0 ∙ ap (expiry_at p) at_tag
            ∙ ap (λ b. end_by b (expiry_of p f.ty.0) f.times.start) event ∙ ap (λ o. end_by true o f.times.start) lasting
        by false e = refl

    abbrev is_newest : IsNewestTag all id.0 f.tag
    is_newest = record { fact = f; is_newest = newest_in all (present p w) whole.lawful.ordered.ids there.to id.0 f here.0 here.1 at_tag; tagged = refl }

    is_of : is_of_type ty.0 (newest (with_facts k all) id.0) ≡ true
    is_of = ap (is_of_type ty.0) (world_found p (with_facts k all) (only_present p w) whole id.0 ∙ is) ∙ typed

    mirrors_next : Mirrors p (with_facts k next) (only_present p (stepped p w step))
    unfolding stepped moved
    mirrors_next =
        subst (Mirrors p (with_facts k next)) (sym (after_without p w ty.0 id.0))
        (retract_moves p (with_facts k all) k.agenda (only_present p w) whole id f.tag is_newest next refl ty k.expiries same_timers is_of)

    are_next : AreForgotten k next st.seen.forgotten
    are_next = record {
      held = λ tag g e.
          not_out all f.tag.0 tag (λ same. let n : None ≡ Some g = sym free ∙ ap (map.get k.facts) (sym same) ∙ e in absurd cc) ∙ st.seen.are.held tag g e;
      known = λ tag g e. st.seen.are.known tag g (was_there tag g e);
      below = st.seen.are.below;
    }

    one_less : Next
    one_less = awaits next mirrors_next are_next was_there
        (subst (λ (o : Snapshot). NetStands p m.net o st.seen.forgotten) same_less (net_less p m.net was st.seen.forgotten f st.seen.stands unmissed))
        (λ place rule at row.
        subst (λ (o : Snapshot). has (clean_rows p o st.seen.forgotten rule) row ≡ has (clean_rows p was st.seen.forgotten rule) row) same_less
        (clean_rows_less p was st.seen.forgotten f distinct unmissed rule (in_place p.rules place rule at) row))

  -- ---- both

  pub retracts_forgotten : Next
  retracts_forgotten = by (found p w id.0) refl
    where
      by : (o : Option Fact) → found p w id.0 ≡ o → Next
      by None e = in_vain (ap (is_of_type ty.0) e)
      by (Some f) e = of_type (f.ty.0 == ty.0) refl
        where
          of_type : (b : Bool) → (f.ty.0 == ty.0) ≡ b → Next
          of_type true typed = one_less f e typed
          of_type false typed = in_vain (ap (is_of_type ty.0) e ∙ typed)
