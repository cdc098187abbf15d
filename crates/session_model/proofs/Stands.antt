-- The facts, the clock and the numbers of a session, of which none is forgotten, are those of the world after a step.
use Rattle.session_model.proofs.Common.{filter, ◌≡◌, ℕ, ℤ, ◌+◌, ◌<◌, if◌then◌else◌, ◌==◌, ◌||◌, Bool, true, false, List, [], ◌∷◌, ◌++◌, Option, Some, None}
use Rattle.session_model.proofs.Common.{refl, sym, ◌∙◌, ap, subst, arith, In, FactId, Tag, TypeId, Value, Fact, Timers, TakesDue, HeldFacts, Program, Modify}
use Rattle.session_model.proofs.Common.{is_present, HaveDistinctTags, is_event, is_reference, of_filter, in_filter, passed, Code, EventFixed, ReferenceFixed}
use Rattle.session_model.proofs.Common.{end_of_presence, World, world_at_clock, only_present, modify_fault, is_of_type, last_start_with, revised, revised_in}
use Rattle.session_model.proofs.Common.{settled, with_new, with_revised, AllBelow, below_of, distinct_more, distinct_filtered, with_numbers, without}
use Rattle.session_model.proofs.Common.{without_fact, others, Marks, IsNewestTag, newest, with_timer, without_timer, fact_left_at, Contents, Mirrors, expiry_at}
use Rattle.session_model.proofs.{Common.{Course, reached_by, fun_ext, Reached, moment_in}, Exactly.{Exact}, Members.{Holds, holds_less, holds_new}}
use Rattle.session_model.proofs.{Members.{holds_revised, swapped, versions}, Newest.{holds, tagged_in, tagged_found, world_found}, Timers.{timed_new}}
use Rattle.{session_model.proofs.Timers.{timed_less, timed_plain, timed_left, left_found, left_present}, rule_world.specs.Worlds.{moved}}
use Rattle.rule_world.proofs.Steps.{move_numbered, numbered}
use Rattle.std.specs.FinMap as map

-- what entry points have reached where a new event has come
abbrev pub reached_with : Program → Fact → Reached → Reached
reached_with p f r = record r { last_start = last_start_with p f r.last_start }

-- the course of a world where a new fact has come: an event moves the last start of its entry point, and begins the world
pub record HasStart (p : Program) (f : Fact) (was now : Course) : Type 0 where
  pub reached : reached_by now ≡ reached_with p f (reached_by was)
  pub begun : now.begun ≡ (was.begun || is_event p f.ty.0)

-- the same of the lists that are kept, place by place
pub has_start : (p : Program) (f : Fact) (was now : Course) → ((entry : ℕ) → moment_in now.last_starts entry ≡ last_start_with p f (moment_in was.last_starts) entry) → now.promises ≡ was.promises
    → now.begun ≡ (was.begun || is_event p f.ty.0) → HasStart p f was now
has_start p f was now starts promises begun = record {
  reached =
      ap (λ (last : ℕ → ℤ). record { last_start = last; promise = moment_in now.promises }) (fun_ext starts)
      ∙ ap (λ (of : List ℤ). record { last_start = last_start_with p f (moment_in was.last_starts); promise = moment_in of }) promises;
  begun = begun;
}

abbrev pub contents : HeldFacts → Timers → ℤ → Course → Marks → ℕ → ℕ → Contents
contents facts expiries clock course a id tag = record { facts = facts; expiries = expiries; clock = clock; course = course; agenda = a; next_id = id; next_tag = tag }

-- a world with another clock and other next numbers
abbrev world_of : World → ℤ → ℕ → ℕ → World
world_of w clock id tag = record { facts = w.facts; clock = clock; reached = w.reached; begun = w.begun; next_id = id; next_tag = tag; fired = w.fired }

abbrev pub own : Contents → World → World
own k w = world_of w k.clock k.next_id k.next_tag

-- what holds of the world with the clock and the numbers of a session holds of each world for which the session stands
pub for_world : (p : Program) (k : Contents) (w : World) (P : World → Type 0) → Exact p k w → (Exact p k (own k w) → P (own k w)) → P w
for_world p k w P s h =
    let e : own k w ≡ w =
    ap (λ z. world_of w z k.next_id k.next_tag) s.mirrors.clock ∙ ap (λ z. world_of w w.clock z k.next_tag) s.mirrors.next_id ∙ ap (λ z. world_of w w.clock w.next_id z) s.mirrors.next_tag in
    subst P e (h (subst (Exact p k) (sym e) s))

-- ---- one fact more

-- no fact stands at the next tag
pub next_is_free : (p : Program) (k : Contents) (w : World) → Exact p k w → (tag : ℕ) → tag ≡ k.next_tag → map.get k.facts tag ≡ None
next_is_free p k w st tag e = by (map.get k.facts tag) refl
  where
    by : (o : Option Fact) → map.get k.facts tag ≡ o → map.get k.facts tag ≡ None
    by None is = is
    by (Some g) is =
        let h : Holds k.facts w.facts = holds p k w st in
        let r = h.to tag g is in
        let low : g.tag.0 < w.next_tag = below_of w.next_tag w.facts st.lawful.ordered.fresh g r.0 in
        let at : g.tag.0 ≡ w.next_tag = r.1 ∙ e ∙ st.mirrors.next_tag in
        absurd (omega arith)

pub new_moves : (p : Program) (k : Contents) (facts : HeldFacts) (expiries : Timers) (course : Course) (b : Marks) (f : Fact) (w : World) → Exact p k w → f.id.0 ≡ k.next_id → f.tag.0 ≡ k.next_tag
    → facts ≡ map.insert k.facts f.tag.0 f → expiries ≡ with_timer k.expiries f.tag.0 (end_of_presence p f.ty.0 f.times.start)
    → HasStart p f k.course course
    → Mirrors p (contents facts expiries k.clock course b (k.next_id + 1) (k.next_tag + 1)) (settled p (with_new p w f))
new_moves p k facts expiries course b f w st id tag made timed last =
    let m = st.mirrors in
    let o = st.lawful.ordered in
    let h : Holds k.facts w.facts = holds p k w st in
    let below : AllBelow w.next_tag w.facts = below_of w.next_tag w.facts o.fresh in
    let new : map.get k.facts f.tag.0 ≡ None = next_is_free p k w st f.tag.0 tag in
    let more : Holds (map.insert k.facts f.tag.0 f) (w.facts ++ f ∷ []) = holds_new k.facts w.facts h f new in
    let tags : HaveDistinctTags (w.facts ++ f ∷ []) = distinct_more w.facts f o.tags (subst (λ n. AllBelow n w.facts) (sym (tag ∙ m.next_tag)) below) in
    let there : Holds facts (w.facts ++ f ∷ []) = subst (λ held. Holds held (w.facts ++ f ∷ [])) (sym made) more in
    record {
      facts = versions facts (w.facts ++ f ∷ []) there tags;
      waits = λ t.
          ap (λ timers. map.get timers t) timed ∙ timed_new p k.facts k.expiries m.waits f new t
          ∙ ap (λ held. expiry_at p (map.get held t)) (sym made);
      clock = m.clock;
      reached = last.reached ∙ ap (reached_with p f) m.reached;
      begun = last.begun ∙ ap (λ b. b || is_event p f.ty.0) m.begun;
      next_id = ap (λ n. n + 1) m.next_id;
      next_tag = ap (λ n. n + 1) m.next_tag;
    }

-- ---- a fact out, and its next version in

module _ (p : Program) (k : Contents) (b : Marks) (f : Fact) where
  -- the others
  abbrev rest : HeldFacts
  rest = map.remove k.facts f.tag.0

  retract_out : (w : World) → Exact p k w → In f w.facts → (ty : TypeId) (id : FactId) (fewer : Timers) → ((tag : ℕ) → map.get fewer tag ≡ without_timer k.expiries f.tag.0 tag) → f.id.0 ≡ id.0 → (f.ty.0 == ty.0) ≡ true
      → Mirrors p (contents rest fewer k.clock k.course b k.next_id k.next_tag) (settled p (without_fact w ty.0 id.0))
  retract_out w st i ty id fewer untimed same of_type =
      let m = st.mirrors in
      let o = st.lawful.ordered in
      let tags : HaveDistinctTags (without ty.0 id.0 w.facts) = distinct_filtered (others ty.0 id.0) w.facts o.tags in
      let left : Holds rest (without ty.0 id.0 w.facts) = holds_less k.facts w.facts (holds p k w st) o.ids o.tags f i id.0 same ty.0 of_type in
      record {
        facts = versions rest (without ty.0 id.0 w.facts) left tags;
        waits = timed_less p k.facts k.expiries m.waits f.tag.0 fewer untimed;
        clock = m.clock;
        reached = m.reached;
        begun = m.begun;
        next_id = m.next_id;
        next_tag = m.next_tag;
      }

  -- the next version
  abbrev next_of : List (ℕ × Value) → Fact
  next_of sets = revised k.next_tag sets f

  modify_own : (w : World) (id : FactId) (sets : List (ℕ × Value)) → Exact p k (own k w) → In f w.facts → f.id.0 ≡ id.0 → is_event p f.ty.0 ≡ false
      → Mirrors p (contents (map.insert rest k.next_tag (next_of sets)) k.expiries k.clock k.course b k.next_id (k.next_tag + 1)) (settled p (with_revised (own k w) id.0 sets))
  unfolding moved
  modify_own w id sets s i same plain =
      let v : World = own k w in
      let o = s.lawful.ordered in
      let g : Fact = next_of sets in
      let h : Holds k.facts w.facts = holds p k v s in
      let facts : List Fact = revised_in id.0 k.next_tag sets w.facts in
      let below : AllBelow k.next_tag w.facts = below_of k.next_tag w.facts o.fresh in
      let more : Holds (map.insert rest k.next_tag g) facts = holds_revised k.facts w.facts h o.ids o.tags f i id.0 same k.next_tag sets below in
      let tags : HaveDistinctTags facts = (move_numbered p v (Modify id sets) (numbered p v o)).tags in
      record {
        facts = versions (map.insert rest k.next_tag g) facts more tags;
        waits = timed_plain p k.facts k.expiries s.mirrors.waits f.tag.0 f g (h.from f i) (next_is_free p k v s k.next_tag refl) plain plain;
        clock = refl;
        reached = s.mirrors.reached;
        begun = s.mirrors.begun;
        next_id = refl;
        next_tag = refl;
      }

-- ---- the same, for what a session took out

pub plain_by : (event reference : Bool) → ◌≡◌ {A = Option Code} (if event then Some EventFixed else if reference then Some ReferenceFixed else None) None → event ≡ false
plain_by true reference e = absurd (let n : Some EventFixed ≡ None = e in cc)
plain_by false reference e = refl

module _ (p : Program) (k : Contents) (b : Marks) (w : World) (st : Exact p k w) (id : FactId) (tag : Tag) (is : IsNewestTag k.facts id.0 tag) where
  there : In is.fact w.facts
  there = tagged_in p k w st id.0 tag is

  pub retract_moves : (others : HeldFacts) → others ≡ map.remove k.facts tag.0 → (ty : TypeId) (fewer : Timers) → ((other : ℕ) → map.get fewer other ≡ without_timer k.expiries tag.0 other) → is_of_type ty.0 (newest k id.0) ≡ true
      → Mirrors p (contents others fewer k.clock k.course b k.next_id k.next_tag) (settled p (without_fact w ty.0 id.0))
  retract_moves others left ty fewer untimed of_type =
      let own_type : (is.fact.ty.0 == ty.0) ≡ true = ap (is_of_type ty.0) (sym (tagged_found p k w st id.0 tag is)) ∙ ap (is_of_type ty.0) (sym (world_found p k w st id.0)) ∙ of_type in
      let others_are : others ≡ map.remove k.facts is.fact.tag.0 = left ∙ ap (λ (t : Tag). map.remove k.facts t.0) (sym is.tagged) in
      subst (λ o. Mirrors p (contents o fewer k.clock k.course b k.next_id k.next_tag) (settled p (without_fact w ty.0 id.0))) (sym others_are)
      (retract_out p k b is.fact w st there ty id fewer (λ other. untimed other ∙ ap (λ (t : Tag). without_timer k.expiries t.0 other) (sym is.tagged)) is.is_newest.own own_type)

  pub modify_moves : (sets : List (ℕ × Value)) (before after : Fact) (all facts : HeldFacts) → Some before ≡ map.get k.facts tag.0 → modify_fault p (newest k id.0) ≡ None → after ≡ revised k.next_tag sets before
      → all ≡ map.insert k.facts after.tag.0 after → facts ≡ map.remove all tag.0
      → Mirrors p (contents facts k.expiries k.clock k.course b k.next_id (k.next_tag + 1)) (settled p (with_revised w id.0 sets))
  modify_moves sets before after all facts taken none after_is made left =
      let rest : HeldFacts = map.remove k.facts is.fact.tag.0 in
      let g : Fact = revised k.next_tag sets is.fact in
      let before_is : before ≡ is.fact = (let s : Some before ≡ Some is.fact = taken ∙ ap (λ (t : Tag). map.get k.facts t.0) (sym is.tagged) ∙ is.is_newest.found in cc) in
      let s : after ≡ g = after_is ∙ ap (revised k.next_tag sets) before_is in
      let plain : is_event p is.fact.ty.0 ≡ false = plain_by (is_event p is.fact.ty.0) (is_reference p is.fact.ty.0) (ap (modify_fault p) (sym (tagged_found p k w st id.0 tag is)) ∙ ap (modify_fault p) (sym (world_found p k w st id.0)) ∙ none) in
      let lower : is.fact.tag.0 < w.next_tag = below_of w.next_tag w.facts st.lawful.ordered.fresh is.fact there in
      let apart : k.next_tag ≡ is.fact.tag.0 → ⊥ = λ (e : k.next_tag ≡ is.fact.tag.0). absurd (omega (arith, e, lower, st.mirrors.next_tag)) in
      let m : facts ≡ map.insert rest k.next_tag g =
      left ∙ ap (λ (t : Tag). map.remove all t.0) (sym is.tagged) ∙ ap (λ o. map.remove o is.fact.tag.0) (made ∙ ap (λ (x : Fact). map.insert k.facts x.tag.0 x) s) ∙ swapped k.facts g is.fact.tag.0 apart in
      subst (λ o. Mirrors p (contents o k.expiries k.clock k.course b k.next_id (k.next_tag + 1)) (settled p (with_revised w id.0 sets))) (sym m)
      (for_world p k w (λ v. Mirrors p (contents (map.insert rest k.next_tag g) k.expiries k.clock k.course b k.next_id (k.next_tag + 1)) (settled p (with_revised v id.0 sets))) st
      (λ v. modify_own p k b is.fact w id sets v there is.is_newest.own plain))

-- ---- nothing but numbers

-- an event that is not present any more is inserted
pub numbers_move : (p : Program) (k : Contents) (course : Course) (b : Marks) (f : Fact) (w : World) → Exact p k w
    → HasStart p f k.course course
    → Mirrors p (contents k.facts k.expiries k.clock course b (k.next_id + 1) (k.next_tag + 1)) (settled p (with_numbers p w f))
numbers_move p k course b f w st last =
    let m = st.mirrors in
    record {
      facts = m.facts;
      waits = m.waits;
      clock = m.clock;
      reached = last.reached ∙ ap (reached_with p f) m.reached;
      begun = last.begun ∙ ap (λ b. b || is_event p f.ty.0) m.begun;
      next_id = ap (λ n. n + 1) m.next_id;
      next_tag = ap (λ n. n + 1) m.next_tag;
    }

-- ---- a later clock

-- what is left are the facts that are present at the new clock
module _ (p : Program) (k : Contents) (w : World) (clock : ℤ) (st : Exact p k w) (later : Timers) (gone : List ℕ) (takes : TakesDue clock k.expiries later gone) (fewer : HeldFacts)
    (left : (tag : ℕ) → map.get fewer tag ≡ fact_left_at k.facts gone tag) where
  abbrev still_there : List Fact
  still_there = filter (is_present p clock) w.facts

  before : Holds k.facts w.facts
  before = holds p k w st

  after : Holds fewer still_there
  after = record {
    to = λ tag g is.
        let r = left_found p k.facts k.expiries st.mirrors.waits clock later gone takes tag g (sym (left tag) ∙ is) in
        let i = before.to tag g r.0 in
        (in_filter (is_present p clock) g w.facts r.1 i.0, i.1);
    from = λ g i.
        left g.tag.0 ∙ left_present p k.facts k.expiries st.mirrors.waits clock later gone takes g.tag.0 g (before.from g (of_filter (is_present p clock) g w.facts i))
        ∙ ap (λ b. if b then Some g else None) (passed (is_present p clock) g w.facts i);
  }

  distinct_after : HaveDistinctTags still_there
  distinct_after = distinct_filtered (is_present p clock) w.facts st.lawful.ordered.tags

  pub clock_moves : (b : Marks) → Mirrors p (contents fewer later clock k.course b k.next_id k.next_tag) (settled p (only_present p (world_at_clock w clock)))
  clock_moves b =
      let m = st.mirrors in
      record {
        facts = versions fewer still_there after distinct_after;
        waits = timed_left p k.facts k.expiries m.waits clock later gone takes fewer left;
        clock = refl;
        reached = m.reached;
        begun = m.begun;
        next_id = m.next_id;
        next_tag = m.next_tag;
      }
