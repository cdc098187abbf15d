-- The same steps in worlds that are alike: their faults, and the worlds that they lead to.
use Rattle.rule_change.proofs.Common.{◌≡◌, ◌&&◌, ◌||◌, ◌==◌, ◌<◌, ◌+◌, ◌+ℤ◌, not, ℕ, ℤ, Bool, true, false, cond, List, [], ◌∷◌, ◌++◌, map, Option, Some, None}
use Rattle.rule_change.proofs.Common.{option_map, inl, inr, refl, sym, ◌∙◌, ap, ap₂, subst, map-append, filter, length, slice_get, if◌then◌else◌, In-append}
use Rattle.rule_change.proofs.Common.{get-below, In, Fact, Times, Value, of_map, is_present, has_match, floor, is_event, is_reference, is_observed, Match}
use Rattle.rule_change.proofs.Common.{Program, TypeInfo, has_still, times_of, new_fault, clock_fault, promise_fault, no_times, event_fault, start_by}
use Rattle.rule_change.proofs.Common.{duration_by, World, snapshot, has_id, present, found, is_of_type, modify_fault, settled, still_fired, new_fact, revised}
use Rattle.rule_change.proofs.Common.{revised_in, retracted_in, last_start_with, moved_fact, new_type, new_entry, IsSameType, as_old, AreAlike, AreOver}
use Rattle.rule_change.proofs.{Common.{IsStepOf, moved_step, SameFault, AlikeSteps}, Places.{Moves, same_event, same_reference, same_types, same_entries}}
use Rattle.rule_change.proofs.{Rows.{HasPlace, filter_mapped, present_same, floor_same}, Marking.{with_marks}, Matching.{same_match, lawful_places, over_moves}}
use Rattle.{rule_change.proofs.Matching.{alike_moved}, rule_model.{proofs.Named.{of_filter}, specs.declared.step.Step.{Step, TheVariants.{Insert, Modify}}}}
use Rattle.{rule_model.specs.declared.step.Step.TheVariants.{Retract, Advance, At, Promise, Begin}, rule_world.proofs.Found.{found_in}}
use Rattle.rule_world.specs.{declared.code.Code.{Code, TheVariants.{EventFixed, EventObserved, ReferenceFixed, Absent}}, Worlds.{fact_of, step_fault, moved}}
use Rattle.rule_world.specs.Worlds.{stepped}

-- ---- what a new fact has of its type

-- what is asked of a type for a new fact
abbrev new_by : Bool → Option ℕ → Option ℕ → ℤ → ℤ → List Value → Option Code
new_by event timestamp duration low clock fields = if event then event_fault low clock (start_by timestamp clock fields) (duration_by duration fields) else None

abbrev times_by : Bool → Option ℕ → Option ℕ → ℤ → List Value → Times
times_by event timestamp duration clock fields =
    if event then record { start = start_by timestamp clock fields; end = start_by timestamp clock fields +ℤ duration_by duration fields } else no_times

fault_of : (a b : TypeInfo) (low clock : ℤ) (fields : List Value) → IsSameType a b → new_fault (Some b) low clock fields ≡ new_fault (Some a) low clock fields
fault_of a b low clock fields s =
    ap (λ (e : Bool). new_by e b.timestamp b.duration low clock fields) (sym s.event)
    ∙ ap₂ (λ (t d : Option ℕ). new_by a.event t d low clock fields) (sym s.timestamp) (sym s.duration)

times_like : (a b : TypeInfo) (clock : ℤ) (fields : List Value) → IsSameType a b → times_of (Some b) clock fields ≡ times_of (Some a) clock fields
times_like a b clock fields s =
    ap (λ (e : Bool). times_by e b.timestamp b.duration clock fields) (sym s.event)
    ∙ ap₂ (λ (t d : Option ℕ). times_by a.event t d clock fields) (sym s.timestamp) (sym s.duration)

module _ (p q : Program) (m : Moves p q) where
  new_fault_same : (ty : ℕ) (low clock : ℤ) (fields : List Value) → ty < length p.types
      → new_fault (slice_get q.types (new_type p q ty)) low clock fields ≡ new_fault (slice_get p.types ty) low clock fields
  new_fault_same ty low clock fields lt =
      let t = get-below p.types ty lt in
      let u = m.type_is ty t.0 t.1 in
      ap (λ (o : Option TypeInfo). new_fault o low clock fields) u.1 ∙ fault_of t.0 u.0 low clock fields u.2 ∙ sym (ap (λ (o : Option TypeInfo). new_fault o low clock fields) t.1)

  times_same : (ty : ℕ) (clock : ℤ) (fields : List Value) → ty < length p.types → times_of (slice_get q.types (new_type p q ty)) clock fields ≡ times_of (slice_get p.types ty) clock fields
  times_same ty clock fields lt =
      let t = get-below p.types ty lt in
      let u = m.type_is ty t.0 t.1 in
      ap (λ (o : Option TypeInfo). times_of o clock fields) u.1 ∙ times_like t.0 u.0 clock fields u.2 ∙ sym (ap (λ (o : Option TypeInfo). times_of o clock fields) t.1)

  -- ---- what is found

  fact_moved : (facts : List Fact) (id : ℕ) → fact_of (map (moved_fact p q) facts) id ≡ option_map (moved_fact p q) (fact_of facts id)
  unfolding fact_of
  fact_moved [] id = refl
  fact_moved (f ∷ facts) id = by (has_id id f) (fact_moved facts id)
    where
      by : (b : Bool) → fact_of (map (moved_fact p q) facts) id ≡ option_map (moved_fact p q) (fact_of facts id)
          → cond b (Some (moved_fact p q f)) (fact_of (map (moved_fact p q) facts) id) ≡ option_map (moved_fact p q) (cond b (Some f) (fact_of facts id))
      by true later = refl
      by false later = later

  fact_place : (facts : List Fact) (id : ℕ) (f : Fact) → ((g : Fact) → In g facts → HasPlace p g) → fact_of facts id ≡ Some f → HasPlace p f
  fact_place facts id f places e = places f (found_in facts id f e).0

  modify_same : (there : Option Fact) → ((f : Fact) → there ≡ Some f → HasPlace p f) → modify_fault q (option_map (moved_fact p q) there) ≡ modify_fault p there
  modify_same None at = refl
  modify_same (Some f) at =
      ap₂ (λ (e r : Bool). if e then Some EventFixed else if r then Some ReferenceFixed else None) (same_event p q m f.ty.0 (at f refl).type) (same_reference p q m f.ty.0 (at f refl).type)

  of_type_same : (ty : ℕ) (there : Option Fact) → ty < length p.types → ((f : Fact) → there ≡ Some f → HasPlace p f)
      → is_of_type (new_type p q ty) (option_map (moved_fact p q) there) ≡ is_of_type ty there
  of_type_same ty None lt at = refl
  of_type_same ty (Some f) lt at = same_types p q m f.ty.0 ty (at f refl).type lt

  module _ (from : ℕ → Option ℕ) (w w' : World) (places : (f : Fact) → In f w.facts → HasPlace p f) (alike : AreAlike p q from w w') where
    present_moved : present q w' ≡ map (moved_fact p q) (present p w)
    present_moved =
        ap₂ (λ (c : ℤ) (facts : List Fact). filter (is_present q c) facts) alike.clock alike.facts
        ∙ filter_mapped (moved_fact p q) (is_present p w.clock) (is_present q w.clock) w.facts (λ f i. present_same p q m w.clock f (places f i))

    found_moved : (id : ℕ) → found q w' id ≡ option_map (moved_fact p q) (found p w id)
    found_moved id = ap (λ (facts : List Fact). fact_of facts id) present_moved ∙ fact_moved (present p w) id

    found_place : (id : ℕ) (f : Fact) → found p w id ≡ Some f → HasPlace p f
    found_place id f e = fact_place (present p w) id f (λ g i. places g (of_filter (is_present p w.clock) g w.facts i)) e

    floor_alike : (entry : ℕ) → entry < length p.entries → floor q (snapshot w') (new_entry p q entry) ≡ floor p (snapshot w) entry
    floor_alike entry lt = floor_same p q m (snapshot w) (snapshot w') (alike_moved p q from m w w' places alike) entry lt

    fault_same : ((ty : ℕ) → ty < length p.types → is_observed q (new_type p q ty) ≡ is_observed p ty)
        → (step : Step) → IsStepOf p step → step_fault q w' (moved_step p q step) ≡ step_fault p w step
    unfolding step_fault
    fault_same observed (Insert ty entry fields) of =
        ap₂ (λ (r b : Bool). if r && b then Some ReferenceFixed else new_fault (slice_get q.types (new_type p q ty.0)) (floor q (snapshot w') (new_entry p q entry.0)) w'.clock fields)
        (same_reference p q m ty.0 of.0) alike.begun
        ∙ ap (λ (fault : Option Code). if is_reference p ty.0 && w.begun then Some ReferenceFixed else fault)
        (ap₂ (λ (low clock : ℤ). new_fault (slice_get q.types (new_type p q ty.0)) low clock fields) (floor_alike entry.0 of.1) alike.clock
        ∙ new_fault_same ty.0 (floor p (snapshot w) entry.0) w.clock fields of.0)
    fault_same observed (Modify id sets) of = ap (modify_fault q) (found_moved id.0) ∙ modify_same (found p w id.0) (found_place id.0)
    fault_same observed (Retract ty id) of =
        ap₂ (λ (e o : Bool). if e then (if o then Some EventObserved else None)
        else if is_reference q (new_type p q ty.0) then Some ReferenceFixed
        else if is_of_type (new_type p q ty.0) (found q w' id.0) then None else Some Absent) (same_event p q m ty.0 of) (observed ty.0 of)
        ∙ ap₂ (λ (r t : Bool). if is_event p ty.0 then (if is_observed p ty.0 then Some EventObserved else None) else if r then Some ReferenceFixed else if t then None else Some Absent)
        (same_reference p q m ty.0 of)
        (ap (is_of_type (new_type p q ty.0)) (found_moved id.0) ∙ of_type_same ty.0 (found p w id.0) of (found_place id.0))
    fault_same observed (Advance by) of = ap (λ (c : ℤ). clock_fault c (c +ℤ by)) alike.clock
    fault_same observed (At moment) of = ap (λ (c : ℤ). clock_fault c moment) alike.clock
    fault_same observed (Promise entry since) of = ap (λ (c : ℤ). promise_fault c since) (alike.promises entry.0 of)
    fault_same observed Begin of = refl

    -- ---- the world that a step moves

    abbrev fact_by : ℕ → ℕ → ℕ → ℕ → List Value → Times → Fact
    fact_by id tag ty entry fields times = record { id = record { 0 = id }; ty = record { 0 = ty }; entry = record { 0 = entry }; fields = fields; tag = record { 0 = tag }; times = times }

    new_same : (ty entry : ℕ) (fields : List Value) → ty < length p.types → new_fact q w' (new_type p q ty) (new_entry p q entry) fields ≡ moved_fact p q (new_fact p w ty entry fields)
    new_same ty entry fields lt =
        ap₂ (λ (id tag : ℕ). fact_by id tag (new_type p q ty) (new_entry p q entry) fields (times_of (slice_get q.types (new_type p q ty)) w'.clock fields)) alike.next_id alike.next_tag
        ∙ ap (fact_by w.next_id w.next_tag (new_type p q ty) (new_entry p q entry) fields)
        (ap (λ (c : ℤ). times_of (slice_get q.types (new_type p q ty)) c fields) alike.clock ∙ times_same ty w.clock fields lt)

    revised_moved : (id tag : ℕ) (sets : List (ℕ × Value)) (facts : List Fact) → revised_in id tag sets (map (moved_fact p q) facts) ≡ map (moved_fact p q) (revised_in id tag sets facts)
    revised_moved id tag sets [] = refl
    revised_moved id tag sets (f ∷ facts) = ap₂ (λ (x : Fact) (xs : List Fact). x ∷ xs) (by (has_id id f)) (revised_moved id tag sets facts)
      where
        by : (b : Bool) → (if b then revised tag sets (moved_fact p q f) else moved_fact p q f) ≡ moved_fact p q (if b then revised tag sets f else f)
        by true = refl
        by false = refl

    retracted_moved : (ty id : ℕ) → ty < length p.types → retracted_in q w'.clock (new_type p q ty) id w'.facts ≡ map (moved_fact p q) (retracted_in p w.clock ty id w.facts)
    retracted_moved ty id lt =
        ap₂ (λ (c : ℤ) (facts : List Fact). retracted_in q c (new_type p q ty) id facts) alike.clock alike.facts
        ∙ filter_mapped (moved_fact p q) (λ (f : Fact). not (is_present p w.clock f && (f.ty.0 == ty && has_id id f)))
        (λ (f : Fact). not (is_present q w.clock f && (f.ty.0 == new_type p q ty && has_id id f))) w.facts
        (λ f i. ap₂ (λ (a b : Bool). not (a && (b && has_id id f))) (present_same p q m w.clock f (places f i)) (same_types p q m f.ty.0 ty (places f i).type lt))

    last_same : (ty entry other : ℕ) (fields : List Value) → ty < length p.types → entry < length p.entries → other < length p.entries
        → last_start_with q (new_fact q w' (new_type p q ty) (new_entry p q entry) fields) w'.reached.last_start (new_entry p q other)
        ≡ last_start_with p (new_fact p w ty entry fields) w.reached.last_start other
    last_same ty entry other fields lt le lo =
        ap₂ (λ (e s : Bool). if e && s then (times_of (slice_get q.types (new_type p q ty)) w'.clock fields).start else w'.reached.last_start (new_entry p q other))
        (same_event p q m ty lt) (same_entries p q m entry other le lo)
        ∙ ap₂ (λ (times : Times) (last : ℤ). if is_event p ty && entry == other then times.start else last)
        (ap (λ (c : ℤ). times_of (slice_get q.types (new_type p q ty)) c fields) alike.clock ∙ times_same ty w.clock fields lt) (alike.last_starts other lo)

    -- worlds that have the same marks
    alike_by : {v v' : World} → v'.facts ≡ map (moved_fact p q) v.facts → v'.clock ≡ v.clock → v'.begun ≡ v.begun → v'.next_id ≡ v.next_id → v'.next_tag ≡ v.next_tag
        → ((entry : ℕ) → entry < length p.entries → v'.reached.last_start (new_entry p q entry) ≡ v.reached.last_start entry)
        → ((entry : ℕ) → entry < length p.entries → v'.reached.promise (new_entry p q entry) ≡ v.reached.promise entry)
        → ((n : Match) (old : ℕ) → from n.rule.0 ≡ Some old → has_match v'.fired n ≡ has_match v.fired (as_old old n)) → AreAlike p q from v v'
    alike_by facts clock begun id tag last_starts promises fired = record {
      facts = facts;
      clock = clock;
      begun = begun;
      next_id = id;
      next_tag = tag;
      last_starts = last_starts;
      promises = promises;
      fired = fired;
    }

    next : {a b : ℕ} → a ≡ b → a + 1 ≡ b + 1
    next e = ap (λ (n : ℕ). n + 1) e

    moved_alike : (step : Step) → IsStepOf p step → AreAlike p q from (moved p w step) (moved q w' (moved_step p q step))
    unfolding moved
    moved_alike (Insert ty entry fields) of =
        alike_by
        (ap₂ (λ (facts : List Fact) (f : Fact). facts ++ f ∷ []) alike.facts (new_same ty.0 entry.0 fields of.0)
        ∙ sym (map-append (moved_fact p q) w.facts (new_fact p w ty.0 entry.0 fields ∷ [])))
        alike.clock (ap₂ (λ (a b : Bool). a || b) alike.begun (same_event p q m ty.0 of.0)) (next alike.next_id) (next alike.next_tag)
        (λ other lt. last_same ty.0 entry.0 other fields of.0 of.1 lt) alike.promises alike.fired
    moved_alike (Modify id sets) of =
        alike_by (ap₂ (λ (tag : ℕ) (facts : List Fact). revised_in id.0 tag sets facts) alike.next_tag alike.facts ∙ revised_moved id.0 w.next_tag sets w.facts)
        alike.clock alike.begun alike.next_id (next alike.next_tag) alike.last_starts alike.promises alike.fired
    moved_alike (Retract ty id) of = alike_by (retracted_moved ty.0 id.0 of) alike.clock alike.begun alike.next_id alike.next_tag alike.last_starts alike.promises alike.fired
    moved_alike (Advance by) of =
        alike_by alike.facts (ap (λ (c : ℤ). c +ℤ by) alike.clock) alike.begun alike.next_id alike.next_tag alike.last_starts alike.promises alike.fired
    moved_alike (At moment) of = alike_by alike.facts refl alike.begun alike.next_id alike.next_tag alike.last_starts alike.promises alike.fired
    moved_alike (Promise entry since) of =
        alike_by alike.facts alike.clock alike.begun alike.next_id alike.next_tag alike.last_starts
        (λ other lt. ap₂ (λ (b : Bool) (last : ℤ). if b then since else last) (same_entries p q m entry.0 other of lt) (alike.promises other lt)) alike.fired
    moved_alike Begin of = alike_by alike.facts alike.clock refl alike.next_id alike.next_tag alike.last_starts alike.promises alike.fired

-- the facts of the moved world have the program's places too
moved_places : (p : Program) (w : World) → ((f : Fact) → In f w.facts → HasPlace p f) → (step : Step) → IsStepOf p step → (f : Fact) → In f (moved p w step).facts → HasPlace p f
unfolding moved
moved_places p w places (Insert ty entry fields) of f i = elim (In-append f w.facts (new_fact p w ty.0 entry.0 fields ∷ []) i) [
  | inl j ↦ places f j
  | inr (inl e) ↦ subst (HasPlace p) (sym e) (record { type = of.0; entry = of.1 })
  | inr (inr j) ↦ absurd j
]
moved_places p w places (Modify id sets) of f i =
    let r = of_map (λ (g : Fact). if has_id id.0 g then revised w.next_tag sets g else g) f w.facts i in
    subst (HasPlace p) r.2 (by (has_id id.0 r.0) r.0 (places r.0 r.1))
  where
    by : (b : Bool) (g : Fact) → HasPlace p g → HasPlace p (if b then revised w.next_tag sets g else g)
    by true g at = record { type = at.type; entry = at.entry }
    by false g at = at
moved_places p w places (Retract ty id) of f i = places f (of_filter (λ (g : Fact). not (is_present p w.clock g && (g.ty.0 == ty.0 && has_id id.0 g))) f w.facts i)
moved_places p w places (Advance by) of f i = places f i
moved_places p w places (At moment) of f i = places f i
moved_places p w places (Promise entry since) of f i = places f i
moved_places p w places Begin of f i = places f i

-- worlds whose marks are judged anew
settled_alike : (p q : Program) (from : ℕ → Option ℕ) (w w' : World) → AreOver p q from → ((f : Fact) → In f w.facts → HasPlace p f) → AreAlike p q from w w'
    → AreAlike p q from (settled p w) (settled q w')
settled_alike p q from w w' over places alike =
    let moves = over_moves p q from over in
    with_marks p q from w w' (still_fired p (snapshot w) w.fired) (still_fired q (snapshot w') w'.fired) alike (λ n old e.
    has_still q (snapshot w') w'.fired n
    ∙ ap₂ (λ (a b : Bool). a && b) (alike.fired n old e)
    (same_match p q moves over.places (snapshot w) (snapshot w') (alike_moved p q from moves w w' places alike) n old (over.are_from.same n.rule.0 old e))
    ∙ sym (has_still p (snapshot w) w.fired (as_old old n)))

pub same_fault : SameFault
same_fault p q from w w' over lawful alike observed step of =
    fault_same p q (over_moves p q from over) from w w' (lawful_places p w lawful) alike observed step of

pub alike_steps : AlikeSteps
unfolding stepped
alike_steps p q from w w' over lawful alike step of =
    let places = lawful_places p w lawful in
    settled_alike p q from (moved p w step) (moved q w' (moved_step p q step)) over (moved_places p w places step of)
    (moved_alike p q (over_moves p q from over) from w w' places alike step of)
