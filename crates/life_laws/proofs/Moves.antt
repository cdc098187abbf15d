-- Each step without a fault changes the list of facts by loose ones alone, and never moves the clock back.
use Rattle.life_laws.proofs.Common.{◌≡◌, ◌==◌, ◌&&◌, ℕ, ℤ, ◌+ℤ◌, ◌≤ℤ◌, Bool, true, false, cond, if◌then◌else◌, List, [], ◌∷◌, ◌++◌, Option, Some, None, refl}
use Rattle.life_laws.proofs.Common.{sym, ◌∙◌, ap, subst, arith, inl, inr, slice_get, filter, ints, clamps, In, Fact, Value, Program, Step, Insert, Modify}
use Rattle.life_laws.proofs.Common.{Retract, Advance, At, Promise, Begin, is_present, Snapshot, Tuple, is_event, is_reference, is_observed, lateness_of}
use Rattle.life_laws.proofs.Common.{EventObserved, ReferenceFixed, Absent, IsLawful, World, snapshot, insert_fault, modify_fault, retract_fault, is_of_type}
use Rattle.life_laws.proofs.Common.{new_fact, has_id, stays, KeepsTuple, found, revised, revised_in, event_by, point_by, IsStarted, started, modified_plain}
use Rattle.life_laws.proofs.{Common.{moved_forward, fact_with, found_there}, Flagged.{modified_open, retracted_open, Quiet}, Shifts.{Loose, a_fact, gone}}
use Rattle.{life_laws.proofs.{Shifts.{fresh, Timed, Shift, at_end, same, less, more}, Transfers.{Turns}}, std.specs.Int.Signed.{≤ℤ_refl}}
use Rattle.{std.proofs.lemmas.Bool.{and_parts, eqb-true, not-false}, rule_model.specs.Snapshots.{floor}, rule_world.specs.Worlds.{moved, step_fault}}
use Rattle.rule_world.proofs.Faultless.{inserted as no_fault}

abbrev AllTimed : Program → List Fact → Type 0
AllTimed p xs = (f : Fact) → In f xs → Timed p f

lawful_timed : (p : Program) (w : World) → IsLawful p w → AllTimed p w.facts
lawful_timed p w law f i e = ((law.sound f i).timed e).event

rest : (p : Program) (f : Fact) (xs : List Fact) → AllTimed p (f ∷ xs) → AllTimed p xs
rest p f xs timed = λ g i. timed g (inr i)

-- a plain fact that may change, since its type is no reference type
abbrev IsOpen : Program → Fact → Type 0
IsOpen p f = (is_event p f.ty.0 ≡ false) × (is_reference p f.ty.0 ≡ false)

module _ (p : Program) (c : ℤ) (tuple : Tuple) where
  stay : (xs : List Fact) → AllTimed p xs → Shift p c tuple xs xs
  stay [] timed = at_end
  stay (f ∷ xs) timed = same (timed f (inl refl)) (stay xs (rest p f xs timed))

  inserted : (new : Fact) → Timed p new → Loose p c tuple new → (xs : List Fact) → AllTimed p xs → Shift p c tuple xs (xs ++ new ∷ [])
  inserted new g l [] timed = more g l at_end
  inserted new g l (f ∷ xs) timed = same (timed f (inl refl)) (inserted new g l xs (rest p f xs timed))

  taken : (b : Bool) (test : Fact → Bool) (f : Fact) (xs ys : List Fact) → test f ≡ b → Timed p f → (test f ≡ false → Loose p c tuple f) → Shift p c tuple xs ys
      → Shift p c tuple (f ∷ xs) (cond b (f ∷ ys) ys)
  taken true test f xs ys e g l s = same g s
  taken false test f xs ys e g l s = less g (l e) s

  removed : (test : Fact → Bool) (xs : List Fact) → AllTimed p xs → ((f : Fact) → In f xs → test f ≡ false → Loose p c tuple f) → Shift p c tuple xs (filter test xs)
  removed test [] timed loose = at_end
  removed test (f ∷ xs) timed loose =
      taken (test f) test f xs (filter test xs) refl (timed f (inl refl)) (loose f (inl refl)) (removed test xs (rest p f xs timed) (λ g i. loose g (inr i)))

  replaced_by : (b : Bool) (id tag : ℕ) (sets : List (ℕ × Value)) (f : Fact) (xs ys : List Fact) → has_id id f ≡ b → Timed p f → (has_id id f ≡ true → IsOpen p f)
      → Shift p c tuple xs ys → Shift p c tuple (f ∷ xs) ((if b then revised tag sets f else f) ∷ ys)
  replaced_by true id tag sets f xs ys e g plain s =
      let is = plain e in
      less g (a_fact is.0 is.1) (more (λ event. let n : true ≡ false = sym event ∙ is.0 in absurd cc) (a_fact is.0 is.1) s)
  replaced_by false id tag sets f xs ys e g plain s = same g s

  replaced : (id tag : ℕ) (sets : List (ℕ × Value)) (xs : List Fact) → AllTimed p xs → ((f : Fact) → In f xs → has_id id f ≡ true → IsOpen p f)
      → Shift p c tuple xs (revised_in id tag sets xs)
  replaced id tag sets [] timed plain = at_end
  replaced id tag sets (f ∷ xs) timed plain =
      replaced_by (has_id id f) id tag sets f xs (revised_in id tag sets xs) refl (timed f (inl refl)) (plain f (inl refl))
      (replaced id tag sets xs (rest p f xs timed) (λ g i. plain g (inr i)))

-- ---- what a step without a fault has

-- a new event starts from the clock less its lateness on
floor_from : (p : Program) (s : Snapshot) (entry : ℕ) (start : ℤ) → floor p s entry ≤ℤ start → s.clock ≤ℤ (start +ℤ lateness_of p entry)
unfolding floor
floor_from p s entry start h = omega (arith, ints, clamps)

module _ (p : Program) (w : World) (ty entry : ℕ) (fields : List Value) (none : insert_fault p w ty entry fields ≡ None) where
  abbrev new : Fact
  new = new_fact p w ty entry fields

  new_started : is_event p ty ≡ true → IsStarted (slice_get p.types ty) (floor p (snapshot w) entry) w.clock new.times
  new_started e =
      started (slice_get p.types ty) (floor p (snapshot w) entry) w.clock fields (sym (event_by p ty) ∙ e) (no_fault p w ty entry fields none).1

  new_timed : Timed p new
  new_timed e = let s = new_started e in record { ordered = s.forward; ends = λ h. s.point (sym (point_by p ty) ∙ h) }

  new_loose : (tuple : Tuple) → is_reference p ty ≡ false → Loose p w.clock tuple new
  new_loose tuple changes = by (is_event p ty) refl
    where
      by : (b : Bool) → is_event p ty ≡ b → Loose p w.clock tuple new
      by false e = a_fact e changes
      by true e = fresh e (floor_from p (snapshot w) entry new.times.start (new_started e).from_floor)

-- what has the id of a modification is a plain fact that may change, present or not
open_there : (p : Program) (w : World) (id : ℕ) → IsLawful p w → modify_fault p (found p w id) ≡ None → (f : Fact) → In f w.facts → has_id id f ≡ true → IsOpen p f
open_there p w id law none f i h = by (found p w id) refl none
  where
    by : (there : Option Fact) → found p w id ≡ there → modify_fault p there ≡ None → IsOpen p f
    by None e k = absurd cc
    by (Some g) e k =
        let there : Some g ≡ Some f = sym (found_there p w id g law.ordered e) ∙ fact_with w.facts id f law.ordered.ids i h in
        let one : g ≡ f = cc in
        subst (IsOpen p) one (modified_plain p (Some g) g k refl, modified_open p (Some g) g k refl)

pub plain_there : (p : Program) (w : World) (id : ℕ) → IsLawful p w → modify_fault p (found p w id) ≡ None → (f : Fact) → In f w.facts → has_id id f ≡ true → is_event p f.ty.0 ≡ false
plain_there p w id law none f i h = (open_there p w id law none f i h).0

-- an event that is retracted is of a type that is not observed
pub retracted_is_not_observed : (p : Program) (ty : ℕ) (there : Option Fact) → retract_fault p ty there ≡ None → is_event p ty ≡ true → is_observed p ty ≡ false
retracted_is_not_observed p ty there none event = by (is_event p ty) (is_observed p ty) event none
  where
    by : (a b : Bool) → a ≡ true
        → (if a then (if b then Some EventObserved else None) else if is_reference p ty then Some ReferenceFixed else if is_of_type ty there then None else Some Absent) ≡ None → b ≡ false
    by true true e k = absurd cc
    by true false e k = refl
    by false b e k = absurd cc

-- what a retraction takes away is a plain fact of no reference type, or an event of a type that is not observed
retracted_loose : (p : Program) (c : ℤ) (tuple : Tuple) (ty id : ℕ) (there : Option Fact) → retract_fault p ty there ≡ None
    → ((f : Fact) → In f tuple.facts → f.ty.0 ≡ ty → f.id.0 ≡ id → ⊥) → (f : Fact) → stays p c ty id f ≡ false → Loose p c tuple f
retracted_loose p c tuple ty id there none keeps f out = by (is_event p f.ty.0) refl
  where
    parts : ((f.ty.0 == ty) ≡ true) × (has_id id f ≡ true)
    parts = and_parts (f.ty.0 == ty) (has_id id f) (and_parts (is_present p c f) (f.ty.0 == ty && has_id id f) (not-false _ out)).1

    of_type : f.ty.0 ≡ ty
    of_type = eqb-true f.ty.0 ty parts.0

    of_its_type : (b : Bool) → is_event p f.ty.0 ≡ b → is_event p ty ≡ b
    of_its_type b e = ap (is_event p) (sym of_type) ∙ e

    by : (b : Bool) → is_event p f.ty.0 ≡ b → Loose p c tuple f
    by false e = a_fact e (ap (is_reference p) of_type ∙ retracted_open p ty there none (of_its_type false e))
    by true e =
        gone e (ap (is_observed p) of_type ∙ retracted_is_not_observed p ty there none (of_its_type true e)) (λ own. keeps f own of_type (eqb-true f.id.0 id parts.1))

-- the clock goes on
pub clock_on : (p : Program) (w : World) (step : Step) → step_fault p w step ≡ None → w.clock ≤ℤ (moved p w step).clock
unfolding moved step_fault
clock_on p w (Insert ty entry fields) none = ≤ℤ_refl w.clock
clock_on p w (Modify id sets) none = ≤ℤ_refl w.clock
clock_on p w (Retract ty id) none = ≤ℤ_refl w.clock
clock_on p w (Advance by) none = (moved_forward w.clock (w.clock +ℤ by) none).0
clock_on p w (At moment) none = (moved_forward w.clock moment none).0
clock_on p w (Promise entry from) none = ≤ℤ_refl w.clock
clock_on p w Begin none = ≤ℤ_refl w.clock

shift_of : (p : Program) (w : World) (step : Step) (tuple : Tuple) → IsLawful p w → step_fault p w step ≡ None → KeepsTuple step tuple → Quiet p step
    → Shift p w.clock tuple w.facts (moved p w step).facts
unfolding moved step_fault
shift_of p w (Insert ty entry fields) tuple law none keeps quiet =
    inserted p w.clock tuple (new_fact p w ty.0 entry.0 fields) (new_timed p w ty.0 entry.0 fields none) (new_loose p w ty.0 entry.0 fields none tuple quiet) w.facts (lawful_timed p w law)
shift_of p w (Modify id sets) tuple law none keeps quiet = replaced p w.clock tuple id.0 w.next_tag sets w.facts (lawful_timed p w law) (open_there p w id.0 law none)
shift_of p w (Retract ty id) tuple law none keeps quiet =
    removed p w.clock tuple (stays p w.clock ty.0 id.0) w.facts (lawful_timed p w law) (λ f i out. retracted_loose p w.clock tuple ty.0 id.0 (found p w id.0) none keeps f out)
shift_of p w (Advance by) tuple law none keeps quiet = stay p w.clock tuple w.facts (lawful_timed p w law)
shift_of p w (At moment) tuple law none keeps quiet = stay p w.clock tuple w.facts (lawful_timed p w law)
shift_of p w (Promise entry from) tuple law none keeps quiet = stay p w.clock tuple w.facts (lawful_timed p w law)
shift_of p w Begin tuple law none keeps quiet = stay p w.clock tuple w.facts (lawful_timed p w law)

pub turns_of : (p : Program) (w : World) (step : Step) (tuple : Tuple) → IsLawful p w → step_fault p w step ≡ None → KeepsTuple step tuple → Quiet p step
    → Turns p w.clock tuple (snapshot w) (snapshot (moved p w step))
turns_of p w step tuple law none keeps quiet =
    record { shift = shift_of p w step tuple law none keeps quiet; from = ≤ℤ_refl w.clock; to = clock_on p w step none }
