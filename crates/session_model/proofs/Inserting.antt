-- A session that has taken a new fact, or its numbers alone, awaits the second phase of the step.
use Rattle.session_model.proofs.Common.{◌≡◌, ◌+◌, ◌∙◌, inl, inr, ℕ, ℤ, pos, ◌<◌, ◌≤◌, ◌≤ℤ◌, ◌==◌, ◌&&◌, not, Bool, true, false, cond, [], ◌∷◌, Option, Some}
use Rattle.session_model.proofs.Common.{None, is_some, refl, sym, ap, subst, slice_get, arith, OnOk, nat_cmp_total, get-insert, get-remove, nat_cmp, eq_by_cmp}
use Rattle.session_model.proofs.Common.{itself, Fact, Times, Timers, has_come, HeldFacts, Named, Program, Step, Insert, is_present, name_of, is_event, in_right}
use Rattle.session_model.proofs.Common.{end_of_presence, most_millis, times_of, IsLawful, World, only_present, new_fact, present, settled, step_fault, with_new}
use Rattle.session_model.proofs.Common.{below_of, Marks, Retention, lingers, Covers, Ends, ends_by, ends_of, only, HasLeft, brought, changed, comes, goes}
use Rattle.session_model.proofs.Common.{sight_of, later_covers, Memory, Setting, NeverFalls, HasAtHand, LeadsStep, LeadsOn, instant_of, Contents, AreForgotten}
use Rattle.session_model.proofs.Common.{Awaits, Mirrors, Runs, Standing, Whole, holding, with_facts, reached_of, Course, reached_by, with_timer, Reached}
use Rattle.session_model.proofs.{Exactly.{Exact, exact, after_new, after_numbers}, Members.{got_new, got_old, of_insert}, Needs.{not_needed}}
use Rattle.session_model.proofs.{Readied.{whole_holds, whole_ready}, Ready.{lead_new}, Stands.{HasStart, contents, new_moves, next_is_free, numbers_move}}
use Rattle.{session_model.proofs.Taken.{taken_awaits}, std.specs.{Int.Signed.{≤ℤ_refl}, Prelude.{option_and_then, Result, Ok, Err}}}
use Rattle.{std.proofs.lemmas.Bool.{eqb-false, eqb-true}, rule_world.specs.Worlds.{moved, stepped}}
use Rattle.std.specs.FinMap as map
use Rattle.{session_model.proofs.{Reaching.{reaches_on}, Still.{AgendaFollows, NetFollows, none_out, still_awaits}}, fx_base.proofs.Orders.{eq_by_nat_cmp}}
use Rattle.fx_base.proofs.Orders.{eqb-flip}

-- ---- the retention

-- a tag that was released is free
pub released_free : (due left : Timers) (tag : ℕ) → left ≡ map.remove due tag → map.get left tag ≡ None
released_free due left tag is = ap (λ m. map.get m tag) is ∙ get-remove nat_cmp_total due tag tag ∙ ap (λ b. cond b None (map.get due tag)) (itself tag)

-- a tag that was released and is held again waits for its moment, and the others as before
pub held_again : (due left after : Timers) (tag : ℕ) (until : Option ℤ) (at : ℤ) → until ≡ Some at → left ≡ map.remove due tag → after ≡ map.insert left tag at
    → (other : ℕ) → map.get after other ≡ cond (other == tag && is_some until) until (map.get due other)
held_again due left after tag until at some released held other =
    ap (λ m. map.get m other) held ∙ get-insert nat_cmp_total left tag at other ∙ ap (λ m. cond (eq_by_cmp nat_cmp other tag) (Some at) (map.get m other)) released
    ∙ ap (λ o. cond (eq_by_cmp nat_cmp other tag) (Some at) o) (get-remove nat_cmp_total due tag other)
    ∙ ap (λ b. cond b (Some at) (cond b None (map.get due other))) (eq_by_nat_cmp other tag)
    ∙ by (other == tag)
    ∙ ap (λ o. cond (other == tag && is_some o) o (map.get due other)) (sym some)
  where
    by : (b : Bool) → cond b (Some at) (cond b None (map.get due other)) ≡ cond (b && true) (Some at) (map.get due other)
    by true = refl
    by false = refl

and_not : (b t : Bool) → (b && not t) ≡ true → b ≡ true
and_not true t e = refl
and_not false t e = e

-- a new fact is held until its moment, if it has one
pub held_covers : (ends also : Ends) (now : ℤ) (new : ℕ) (until : Option ℤ) (before after : Retention) → Covers ends now before → ends new ≡ None
    → ((tag : ℕ) → also tag ≡ cond (tag == new) until (ends tag))
    → ((tag : ℕ) → map.get after.due tag ≡ cond (tag == new && is_some until) until (map.get before.due tag))
    → ((tag : ℕ) → lingers after tag ≡ (lingers before tag && not (tag == new && is_some until)))
    → Covers also now after
held_covers ends also now new until before after covers free is due lingering = record {
  due = λ tag. due tag ∙ due_by (tag == new) until (lingers before tag) (map.get before.due tag) (ends tag) (covers.due tag) (λ e. ap ends (eqb-true tag new e) ∙ free) ∙ sym (both tag);
  past = λ tag e.
      ap (has_come now) (is tag)
      ∙ past_by (tag == new) until (lingers before tag) (ends tag) (covers.past tag) (λ h. ap ends (eqb-true tag new h) ∙ free) (sym (lingering tag) ∙ e);
}
  where
    both : (tag : ℕ) → cond (lingers after tag) None (also tag) ≡ cond (lingers before tag && not (tag == new && is_some until)) None (cond (tag == new) until (ends tag))
    both tag = ap (λ b. cond b None (also tag)) (lingering tag) ∙ ap (λ o. cond (lingers before tag && not (tag == new && is_some until)) None o) (is tag)

    due_by : (t : Bool) (until : Option ℤ) (b : Bool) (was end : Option ℤ) → was ≡ cond b None end → (t ≡ true → end ≡ None)
        → cond (t && is_some until) until was ≡ cond (b && not (t && is_some until)) None (cond t until end)
    due_by true (Some at) true was end e h = refl
    due_by true (Some at) false was end e h = refl
    due_by true None true was end e h = e
    due_by true None false was end e h = e ∙ h refl
    due_by false until true was end e h = e
    due_by false until false was end e h = e

    past_by : (t : Bool) (until : Option ℤ) (b : Bool) (end : Option ℤ) → (b ≡ true → has_come now end ≡ true) → (t ≡ true → end ≡ None)
        → (b && not (t && is_some until)) ≡ true → has_come now (cond t until end) ≡ true
    past_by true (Some at) true end p h e = absurd (let n : false ≡ true = e in cc)
    past_by true None true end p h e = ap (has_come now) (sym (h refl)) ∙ p refl
    past_by true until false end p h e = absurd (let n : false ≡ true = e in cc)
    past_by false until b end p h e = p (and_not b false e)

-- ---- the store

-- what is not forgotten is at hand
pub none_going : (k : Contents) (all : HeldFacts) (forgotten : Named → Bool) → AreForgotten k all forgotten → HasAtHand all k.facts [] forgotten
none_going k all forgotten are = record { known = λ tag f is e. by tag f is e (map.get k.facts tag) refl; going = λ tag i. absurd i }
  where
    by : (tag : ℕ) (f : Fact) → map.get all tag ≡ Some f → forgotten (name_of f) ≡ false → (o : Option Fact) → map.get k.facts tag ≡ o → map.get k.facts tag ≡ Some f
    by tag f is e None h = absurd (let n : false ≡ true = sym e ∙ are.known tag f is ∙ ap (λ o. not (is_some o)) h in cc)
    by tag f is e (Some g) h = let n : Some g ≡ Some f = sym (are.held tag g h) ∙ is in h ∙ n

-- ---- the world behind the step

module _ (s : Setting) (m : Memory) (k : Contents) (w : World) (st : Standing s m k w) (f : Fact) (id : f.id.0 ≡ k.next_id) (tag : f.tag.0 ≡ k.next_tag)
    (times : f.times ≡ times_of (slice_get s.program.types f.ty.0) k.clock f.fields) where
  abbrev p : Program
  p = s.program

  abbrev step : Step
  step = Insert f.ty f.entry f.fields

  -- all present facts before the step, and which of them are forgotten
  abbrev all : HeldFacts
  all = st.seen.all

  abbrev forgotten : Named → Bool
  forgotten = st.seen.forgotten

  abbrev fact_with : ℕ → ℕ → Times → Fact
  fact_with i t z = record { id = record { 0 = i }; ty = f.ty; entry = f.entry; fields = f.fields; tag = record { 0 = t }; times = z }

  -- it is the fact that the world makes
  new_is : new_fact p w f.ty.0 f.entry.0 f.fields ≡ f
  new_is =
      ap (λ i. fact_with i w.next_tag (times_of (slice_get p.types f.ty.0) w.clock f.fields)) (sym (id ∙ st.seen.whole.mirrors.next_id))
      ∙ ap (λ t. fact_with f.id.0 t (times_of (slice_get p.types f.ty.0) w.clock f.fields)) (sym (tag ∙ st.seen.whole.mirrors.next_tag))
      ∙ ap (λ c. fact_with f.id.0 f.tag.0 (times_of (slice_get p.types f.ty.0) c f.fields)) (sym st.seen.whole.mirrors.clock)
      ∙ ap (λ z. fact_with f.id.0 f.tag.0 z) (sym times)

  done : stepped p w step ≡ settled p (with_new p w f)
  unfolding stepped moved
  done = ap (λ g. settled p (with_new p w g)) new_is

  before : Exact p (with_facts k all) (only_present p w)
  before = exact p (with_facts k all) w st.seen.whole

  -- no fact was at its tag or behind it
  free : map.get all f.tag.0 ≡ None
  free = next_is_free p (with_facts k all) (only_present p w) before f.tag.0 tag

  above : (t : ℕ) (g : Fact) → map.get all t ≡ Some g → t < f.tag.0
  above t g e =
      let r = (whole_holds p (with_facts k all) w st.seen.whole).to t g e in
      let low : g.tag.0 < w.next_tag = below_of w.next_tag (present p w) before.lawful.ordered.fresh g r.0 in
      let here : g.tag.0 ≡ t = r.1 in
      let next : f.tag.0 ≡ w.next_tag = tag ∙ st.seen.whole.mirrors.next_tag in
      omega arith

  unknown : forgotten (name_of f) ≡ false
  unknown = by (forgotten (name_of f)) refl
    where
      by : (b : Bool) → forgotten (name_of f) ≡ b → b ≡ false
      by true e = let low : f.tag.0 < k.next_tag = st.seen.are.below (name_of f) e in absurd (omega arith)
      by false e = refl

  -- the retention covers the store before the step
  covered_before : Covers (ends_of (ends_by s.lives) (map.get k.facts)) k.clock m.retention
  covered_before =
      subst (λ z. Covers (ends_of (ends_by s.lives) (map.get k.facts)) z m.retention) (sym st.seen.whole.mirrors.clock)
      (later_covers (ends_by s.lives) (sight_of p w) w.clock (holding k m.retention) st.holds (≤ℤ_refl w.clock))

  -- ---- what a new fact changes

  apart : (u : ℕ) (g : Fact) → map.get all u ≡ Some g → u ≡ f.tag.0 → ⊥
  apart u g is e = let lt : u < f.tag.0 = above u g is in absurd (omega arith)

  -- the store has no fact at its tag
  store_free : map.get k.facts f.tag.0 ≡ None
  store_free = by (map.get k.facts f.tag.0) refl
    where
      by : (o : Option Fact) → map.get k.facts f.tag.0 ≡ o → map.get k.facts f.tag.0 ≡ None
      by None e = e
      by (Some g) e = absurd (apart f.tag.0 g (st.seen.are.held f.tag.0 g e) refl)

  below_more : (who : Named) → forgotten who ≡ true → who.tag.0 < k.next_tag + 1
  below_more who e = let low : who.tag.0 < k.next_tag = st.seen.are.below who e in omega arith

  module _ (facts : HeldFacts) (made : facts ≡ map.insert k.facts f.tag.0 f) where
    -- the fact at a tag, with the new one
    got : (held : HeldFacts) (u : ℕ) (b : Bool) → (f.tag.0 == u) ≡ b → map.get (map.insert held f.tag.0 f) u ≡ cond b (Some f) (map.get held u)
    got held u true e = ap (map.get (map.insert held f.tag.0 f)) (sym (eqb-true f.tag.0 u e)) ∙ got_new held f
    got held u false e = got_old held f u (λ h. eqb-false f.tag.0 u e (sym h))

    ends_are : (until : Option ℤ) → until ≡ ends_by s.lives f → (u : ℕ) → ends_of (ends_by s.lives) (map.get facts) u ≡ cond (u == f.tag.0) until (ends_of (ends_by s.lives) (map.get k.facts) u)
    ends_are until is u =
        ap (λ h. option_and_then (ends_by s.lives) (map.get h u)) made ∙ ap (option_and_then (ends_by s.lives)) (got k.facts u (f.tag.0 == u) refl)
        ∙ by (f.tag.0 == u) ∙ ap (λ b. cond b until (ends_of (ends_by s.lives) (map.get k.facts) u)) (eqb-flip f.tag.0 u)
      where
        by : (b : Bool) → option_and_then (ends_by s.lives) (cond b (Some f) (map.get k.facts u)) ≡ cond b until (option_and_then (ends_by s.lives) (map.get k.facts u))
        by true = sym is
        by false = refl

    store_new : comes p w step ≡ Some f → (u : ℕ) → map.get facts u ≡ changed (brought (comes p w step) u) (goes p w step) (map.get k.facts u)
    store_new is u =
        ap (λ h. map.get h u) made ∙ got k.facts u (f.tag.0 == u) refl ∙ by (f.tag.0 == u) ∙ ap (λ o. changed (brought o u) (λ g. false) (map.get k.facts u)) (sym is)
      where
        by : (b : Bool) → cond b (Some f) (map.get k.facts u) ≡ changed (cond b (Some f) None) (λ g. false) (map.get k.facts u)
        by true = refl
        by false = sym (none_out (map.get k.facts u))

    forgotten_new : (t : Contents) → t.facts ≡ facts → t.next_tag ≡ k.next_tag + 1 → AreForgotten t (map.insert all f.tag.0 f) forgotten
    forgotten_new t is next = record {
      held = λ u g e. elim (of_insert k.facts f g u (ap (λ h. map.get h u) (sym (is ∙ made)) ∙ e)) [
        | inl q ↦ ap (map.get (map.insert all f.tag.0 f)) q.1 ∙ got_new all f ∙ ap Some (sym q.0)
        | inr h ↦ (let old = st.seen.are.held u g h in got_old all f u (apart u g old) ∙ old)
      ];
      known = λ u g e. elim (of_insert all f g u e) [
        | inl q ↦ (
            ap (λ (z : Fact). forgotten (name_of z)) q.0 ∙ unknown
            ∙ ap (λ o. not (is_some o)) (sym (ap (λ h. map.get h u) (is ∙ made) ∙ ap (map.get (map.insert k.facts f.tag.0 f)) q.1 ∙ got_new k.facts f)))
        | inr h ↦ st.seen.are.known u g h ∙ ap (λ o. not (is_some o)) (sym (ap (λ h. map.get h u) (is ∙ made) ∙ got_old k.facts f u (apart u g h)))
      ];
      below = λ who e. subst (λ n. who.tag.0 < n) (sym next) (below_more who e);
    }

  -- ---- both phases

  module _ (runs : Runs s) (none : step_fault p w step ≡ None) (lawful : IsLawful p (stepped p w step)) where
    goes_on : (reached : Reached) → reached ≡ (stepped p w step).reached → NeverFalls (reached_of k) reached
    goes_on reached is =
        subst (λ (r : Reached). NeverFalls r reached) (sym st.seen.whole.mirrors.reached) (subst (NeverFalls w.reached) (sym is) (reaches_on p w step st.seen.whole.lawful none))

    from_zero : is_event p f.ty.0 ≡ true → pos 0 ≤ℤ f.times.start
    from_zero e =
        let after : IsLawful p (settled p (with_new p w f)) = subst (IsLawful p) done lawful in
        ((after.sound f (in_right f w.facts (f ∷ []) (inl refl))).timed e).from_zero

    -- a fact that is present
    module _ (here : is_present p k.clock f ≡ true) (high : f.times.start ≤ℤ most_millis) (n : Memory) (facts : HeldFacts) (expiries : Timers) (course : Course) (b : Marks)
        (made : facts ≡ map.insert k.facts f.tag.0 f) (timed : expiries ≡ with_timer k.expiries f.tag.0 (end_of_presence p f.ty.0 f.times.start))
        (last : HasStart p f k.course course) where
      abbrev t : Contents
      t = contents facts expiries k.clock course b (k.next_id + 1) (k.next_tag + 1)

      abbrev more : HeldFacts
      more = map.insert all f.tag.0 f

      in_world : is_present p w.clock f ≡ true
      in_world = ap (λ z. is_present p z f) (sym st.seen.whole.mirrors.clock) ∙ here

      whole_new : Whole p (with_facts t more) (stepped p w step)
      whole_new = record {
        lawful = lawful;
        mirrors =
            subst (Mirrors p (with_facts t more)) (sym (ap (only_present p) done ∙ after_new p w f in_world))
            (new_moves p (with_facts k all) more expiries course b f (only_present p w) before id tag refl timed last);
      }

      leads : LeadsStep p all k.clock more k.clock more [] (Some f)
      leads =
          lead_new p all k.expiries k.clock (whole_ready p (with_facts k all) w st.seen.whole) f (record { present = here; low = from_zero; high = λ e. high }) more refl above

      new_tag : (g : Fact) → Some f ≡ Some g → k.next_tag ≤ g.tag.0
      new_tag g e = let same : f ≡ g = cc in subst (λ (z : Fact). k.next_tag ≤ z.tag.0) same (omega (arith, tag))

      leads_on : LeadsOn p all (instant_of k) more (instant_of t) more [] (Some f) forgotten facts
      leads_on = record {
        leads = leads;
        goes_on = goes_on (reached_by course) whole_new.mirrors.reached;
        unneeded = not_needed s m k w st step runs none more (instant_of t) more [] (Some f) leads whole_new.mirrors.facts whole_new.mirrors.clock whole_new.mirrors.reached (λ u i. absurd i) new_tag;
        at_hand = none_going t more forgotten (forgotten_new facts made t refl refl);
      }

      comes_is : comes p w step ≡ Some f
      comes_is = ap (λ g. only (is_present p w.clock) (Some g)) new_is ∙ ap (λ c. cond c (Some f) None) in_world

      pub present_awaits : (until : Option ℤ) (left : ℕ → Bool) → until ≡ ends_by s.lives f
          → ((u : ℕ) → map.get n.retention.due u ≡ cond (u == f.tag.0 && is_some until) until (map.get m.retention.due u))
          → ((u : ℕ) → lingers n.retention u ≡ (lingers m.retention u && not (u == f.tag.0 && is_some until)))
          → NetFollows p m.net n.net (instant_of t) facts [] (Some f) → AgendaFollows p m.net (instant_of t) facts [] (Some f) k.agenda b → HasLeft k.agenda b left
          → Awaits s n t left (stepped p w step)
      present_awaits until left is due lingering net agenda has_left = taken_awaits s m k w st step n t left runs none (record {
        all = more;
        whole = whole_new;
        are = forgotten_new facts made t refl refl;
        later = λ u g e. elim (of_insert all f g u e) [ inl q ↦ inr (omega (arith, q.1, tag)) | inr h ↦ inl h ];
        stands = net all more more (instant_of k) forgotten leads_on st.seen.stands;
        refreshed = agenda all more more (instant_of k) forgotten leads_on st.seen.stands;
        has_left = has_left;
        store = store_new facts made comes_is;
        covered =
            held_covers (ends_of (ends_by s.lives) (map.get k.facts)) (ends_of (ends_by s.lives) (map.get facts)) k.clock f.tag.0 until m.retention n.retention covered_before
            (ap (option_and_then (ends_by s.lives)) store_free) (ends_are facts made until is) due lingering;
        lingering = λ u e. and_not (lingers m.retention u) (u == f.tag.0 && is_some until) (sym (lingering u) ∙ e);
      })

    -- an event that is not present any more leaves its numbers and its start alone; by its start rows may become mature
    module _ (gone : is_present p k.clock f ≡ false) (n : Memory) (course : Course) (b : Marks) (last : HasStart p f k.course course) (kept : n.retention ≡ m.retention) where
      abbrev with_its_numbers : Contents
      with_its_numbers = contents k.facts k.expiries k.clock course b (k.next_id + 1) (k.next_tag + 1)

      not_in_world : is_present p w.clock f ≡ false
      not_in_world = ap (λ z. is_present p z f) (sym st.seen.whole.mirrors.clock) ∙ gone

      whole_numbers : Whole p (with_facts with_its_numbers all) (stepped p w step)
      whole_numbers = record {
        lawful = lawful;
        mirrors =
            subst (Mirrors p (with_facts with_its_numbers all)) (sym (ap (only_present p) done ∙ after_numbers p w f not_in_world))
            (numbers_move p (with_facts k all) course b f (only_present p w) before last);
      }

      comes_none : comes p w step ≡ None
      comes_none = ap (λ g. only (is_present p w.clock) (Some g)) new_is ∙ ap (λ c. cond c (Some f) None) not_in_world

      pub numbers_await : (left : ℕ → Bool) → NetFollows p m.net n.net (instant_of with_its_numbers) k.facts [] None → AgendaFollows p m.net (instant_of with_its_numbers) k.facts [] None k.agenda b
          → HasLeft k.agenda b left → Awaits s n with_its_numbers left (stepped p w step)
      numbers_await left net agenda has_left =
          still_awaits s m k w st step runs none lawful n course b (k.next_id + 1) (k.next_tag + 1) whole_numbers.mirrors (omega arith) comes_none (λ g. refl) kept left net agenda has_left

-- ---- what is returned

pub on_ok_weaker : {T E P Q : Type 0} (r : Result T E) → (P → Q) → OnOk r P → OnOk r Q
on_ok_weaker (Ok x) f p = f p
on_ok_weaker (Err e) f p = tt
