-- What a session finds by an id is what the world finds, but for an event that it has forgotten: there it finds nothing.
use Rattle.session_model.proofs.Common.{◌≡◌, ℕ, ℤ, ◌<◌, ◌||◌, ◌⊎◌, List, inl, inr, not, cond, Bool, true, false, Option, Some, None, refl, sym, ◌∙◌, ap, subst}
use Rattle.session_model.proofs.Common.{arith, nat_tests, In, FactId, TypeId, Value, Fact, has_come, IsNewest, Program, Modify, Retract, is_event, is_observed}
use Rattle.session_model.proofs.Common.{is_reference, Code, EventObserved, ReferenceFixed, Absent, World, found, is_of_type, only_present, modify_fault}
use Rattle.session_model.proofs.Common.{present, retract_fault, found_in, below_of, one_id, ends_by, is_kept_fact, is_needed, only, sight_of, plain_endless}
use Rattle.session_model.proofs.{Common.{own_at, Memory, Setting, IsOfPlain, newest, Contents, Runs, Standing, with_facts}, Exactly.{Exact, exact}}
use Rattle.{session_model.proofs.{Members.{Holds}, Newest.{holds, newest_found, newest_none}}, std.specs.Prelude.{if◌then◌else◌, ◌==◌}}
use Rattle.rule_world.{specs.Worlds.{step_fault}, proofs.Found.{fact_in}}
use Rattle.std.specs.FinMap as map

-- ---- what is found

-- the world has an event of the id, which the session has not
pub record HasForgotten (p : Program) (k : Contents) (w : World) (id : ℕ) : Type 0 where
  pub none : newest k id ≡ None
  pub fact : Fact
  pub there : found p w id ≡ Some fact
  pub event : is_event p fact.ty.0 ≡ true

module _ (s : Setting) (m : Memory) (k : Contents) (w : World) (runs : Runs s) (st : Standing s m k w) where
  whole : Exact s.program (with_facts k st.seen.all) (only_present s.program w)
  whole = exact s.program (with_facts k st.seen.all) w st.seen.whole

  all_hold : Holds st.seen.all (present s.program w)
  all_hold = holds s.program (with_facts k st.seen.all) (only_present s.program w) whole

  -- a plain fact is always kept
  plain_kept : (f : Fact) → In f (present s.program w) → is_event s.program f.ty.0 ≡ false → map.get k.facts f.tag.0 ≡ Some f
  plain_kept f i plain =
      let endless : ends_by s.lives f ≡ None = plain_endless s.program s.lives f runs.table.safe plain in
      st.holds.store f.tag.0
      ∙ ap (only (is_kept_fact (ends_by s.lives) (sight_of s.program w) f.tag.0)) (own_at (present s.program w) whole.lawful.ordered.tags f i)
      ∙ ap (λ (o : Option ℤ). cond (not (has_come w.clock o) || is_needed (sight_of s.program w) f.tag.0) (Some f) None) endless

  -- what is held of an id is the world's
  held_same : (f : Fact) → In f (present s.program w) → (tag : ℕ) (g : Fact) → map.get k.facts tag ≡ Some g → g.id.0 ≡ f.id.0 → (g ≡ f) × (g.tag.0 ≡ tag)
  held_same f i tag g is own =
      let j = all_hold.to tag g (st.seen.are.held tag g is) in
      (one_id (present s.program w) g f whole.lawful.ordered.ids j.0 i own, j.1)

  module _ (id : ℕ) where
    held_newest : (f : Fact) → In f (present s.program w) → f.id.0 ≡ id → map.get k.facts f.tag.0 ≡ Some f → IsNewest k.facts id f
    held_newest f i own is = record {
      found = is;
      own = own;
      greatest = λ tag g e h.
          let q = held_same f i tag g e (h ∙ sym own) in
          let t : tag ≡ f.tag.0 = sym q.1 ∙ ap (λ (z : Fact). z.tag.0) q.0 in
          omega arith;
    }

    -- nothing else is held of its id
    none_held : (f : Fact) → In f (present s.program w) → f.id.0 ≡ id → map.get k.facts f.tag.0 ≡ None → newest k id ≡ None
    none_held f i own none =
        newest_none k.facts id (λ tag g e h.
        let q = held_same f i tag g e (h ∙ sym own) in
        let t : tag ≡ f.tag.0 = sym q.1 ∙ ap (λ (z : Fact). z.tag.0) q.0 in
        absurd (let n : None ≡ Some g = sym none ∙ ap (map.get k.facts) (sym t) ∙ e in cc)) k.next_tag

    by_event : (f : Fact) → In f (present s.program w) → f.id.0 ≡ id → found s.program w id ≡ Some f → map.get k.facts f.tag.0 ≡ None → (b : Bool) → is_event s.program f.ty.0 ≡ b
        → HasForgotten s.program k w id
    by_event f i own e none true event = record { none = none_held f i own none; fact = f; there = e; event = event }
    by_event f i own e none false plain = absurd (let n : None ≡ Some f = sym none ∙ plain_kept f i plain in cc)

    by_held : (f : Fact) → In f (present s.program w) → f.id.0 ≡ id → found s.program w id ≡ Some f → (o : Option Fact) → map.get k.facts f.tag.0 ≡ o
        → (newest k id ≡ found s.program w id) ⊎ HasForgotten s.program k w id
    by_held f i own e None none = inr (by_event f i own e none (is_event s.program f.ty.0) refl)
    by_held f i own e (Some g) is =
        let q = all_hold.to f.tag.0 g (st.seen.are.held f.tag.0 g is) in
        let same : Some g ≡ Some f = sym (st.seen.are.held f.tag.0 g is) ∙ all_hold.from f i in
        let lt : f.tag.0 < w.next_tag = below_of w.next_tag (present s.program w) whole.lawful.ordered.fresh f i in
        inl (newest_found k.facts id f (held_newest f i own (is ∙ same)) k.next_tag (subst (λ n. f.tag.0 < n) (sym whole.mirrors.next_tag) lt) ∙ sym e)

    -- what is found is the world's, or an event is forgotten
    pub looked : (newest k id ≡ found s.program w id) ⊎ HasForgotten s.program k w id
    looked = by (found s.program w id) refl
      where
        by : (o : Option Fact) → found s.program w id ≡ o → (newest k id ≡ found s.program w id) ⊎ HasForgotten s.program k w id
        by (Some f) e = let q = found_in (present s.program w) id f e in by_held f q.0 q.1 e (map.get k.facts f.tag.0) refl
        by None e =
            inl (newest_none k.facts id (λ tag g is own.
            let j = all_hold.to tag g (st.seen.are.held tag g is) in
            let there : found s.program w id ≡ Some g = subst (λ n. found s.program w n ≡ Some g) own (fact_in (present s.program w) g whole.lawful.ordered.ids j.0) in
            absurd (let n : None ≡ Some g = sym e ∙ there in cc)) k.next_tag ∙ sym e)

-- ---- the faults of modifications and retractions

-- an event is not of a plain type
other_type : (p : Program) (ty : ℕ) (f : Fact) → is_event p ty ≡ false → is_event p f.ty.0 ≡ true → is_of_type ty (Some f) ≡ false
other_type p ty f plain event = by (f.ty.0 == ty) refl
  where
    by : (b : Bool) → (f.ty.0 == ty) ≡ b → b ≡ false
    by false e = refl
    by true e =
        let same : f.ty.0 ≡ ty = grind (arith, nat_tests) in
        absurd (let n : true ≡ false = sym event ∙ ap (is_event p) same ∙ plain in cc)

-- of an event type the fault does not ask for the fact, and of a plain type an event is none
unasked : (p : Program) (ty : ℕ) (f : Fact) → is_event p f.ty.0 ≡ true → retract_fault p ty None ≡ retract_fault p ty (Some f)
unasked p ty f event = by (is_event p ty) refl
  where
    by : (b : Bool) → is_event p ty ≡ b
        → ◌≡◌ {A = Option Code} (if b then if is_observed p ty then Some EventObserved else None else if is_reference p ty then Some ReferenceFixed else Some Absent)
        (if b then if is_observed p ty then Some EventObserved else None else if is_reference p ty then Some ReferenceFixed else if is_of_type ty (Some f) then None else Some Absent)
    by true e = refl
    by false e = ap (λ (c : Bool). if is_reference p ty then Some ReferenceFixed else if c then None else Some Absent) (sym (other_type p ty f e event))

module _ (s : Setting) (m : Memory) (k : Contents) (w : World) (runs : Runs s) (st : Standing s m k w) where
  -- whether what is found is of a plain type is asked of either
  pub same_of_type : (ty id : ℕ) → is_event s.program ty ≡ false → is_of_type ty (newest k id) ≡ is_of_type ty (found s.program w id)
  same_of_type ty id plain = elim (looked s m k w runs st id) [
    | inl same ↦ ap (is_of_type ty) same
    | inr h ↦ ap (is_of_type ty) h.none ∙ sym (other_type s.program ty h.fact plain h.event) ∙ ap (is_of_type ty) (sym h.there)
  ]

  pub modify_fault_is : (id : FactId) (sets : List (ℕ × Value)) (o : Option Code) → IsOfPlain s.program w (Modify id sets) → modify_fault s.program (newest k id.0) ≡ o
      → step_fault s.program w (Modify id sets) ≡ o
  unfolding step_fault
  modify_fault_is id sets o plain e = elim (looked s m k w runs st id.0) [
    | inl same ↦ ap (modify_fault s.program) (sym same) ∙ e
    | inr h ↦ absurd (let n : true ≡ false = sym h.event ∙ plain h.fact h.there in cc)
  ]

  -- what is modified is found as the world finds it
  pub modified_found : (id : FactId) (sets : List (ℕ × Value)) → IsOfPlain s.program w (Modify id sets) → newest k id.0 ≡ found s.program w id.0
  modified_found id sets plain = elim (looked s m k w runs st id.0) [
    | inl same ↦ same
    | inr h ↦ absurd (let n : true ≡ false = sym h.event ∙ plain h.fact h.there in cc)
  ]

  pub retract_fault_is : (ty : TypeId) (id : FactId) (o : Option Code) → retract_fault s.program ty.0 (newest k id.0) ≡ o → step_fault s.program w (Retract ty id) ≡ o
  unfolding step_fault
  retract_fault_is ty id o e = elim (looked s m k w runs st id.0) [
    | inl same ↦ ap (retract_fault s.program ty.0) (sym same) ∙ e
    | inr h ↦ ap (retract_fault s.program ty.0) h.there ∙ sym (unasked s.program ty.0 h.fact h.event) ∙ ap (retract_fault s.program ty.0) (sym h.none) ∙ e
  ]
