-- The faults of steps, by what a session has.
use Rattle.session_model.proofs.Common.{◌≡◌, ◌≤◌, ◌^◌, ℕ, ℤ, pos, negsuc, ◌+◌, ◌+ℤ◌, ◌≤ℤ◌, ◌&&◌, not, cond, Bool, true, false, List, [], ◌∷◌, Option, Some}
use Rattle.session_model.proofs.Common.{None, slice_get, Bor, FitsSigned, to_z, of_z, to_z-of_z, w64, refl, sym, ◌∙◌, ap, subst, arith, IfNone, IfSome}
use Rattle.session_model.proofs.Common.{nat_cmp_total, get-insert, get-retain_keys, list_any, nat_cmp, eq_by_cmp, is_eq, ints, EntryId, TypeId, Times, Value}
use Rattle.session_model.proofs.Common.{Fact, Timers, TakesDue, is_due, HeldFacts, HoldsNone, IsNewest, tied, Code, EventObserved, ReferenceFixed, Absent}
use Rattle.session_model.proofs.Common.{ClockBack, ClockEnd, Program, Insert, Advance, At, Promise, clock_fault, new_fault, promise_fault, IsLawful, IsRunnable}
use Rattle.session_model.proofs.Common.{World, world_at_clock, only_present, is_of_type, retract_fault, settled, floor_by, Reached, is_event, is_observed}
use Rattle.session_model.proofs.Common.{is_reference, lateness_of, new_line, new_fact, times_of, Memory, Setting, step_lines, IsSafe, insert_fault_in, newest}
use Rattle.session_model.proofs.Common.{Contents, Mirrors, Standing, with_facts, reached_of, with_timer, without_timer, fact_left_at}
use Rattle.session_model.{specs.Leading.{MovesSession}, proofs.{Members.{got_old, none_left}, Newest.{store_found, store_none}}}
use Rattle.{std.specs.Prelude.{if◌then◌else◌, int_lt, nat_eq, option_map}, rule_world.specs.{Events.{most_millis}, Worlds.{moved, step_fault, stepped}}}
use Rattle.{rule_model.specs.Snapshots.{floor}, fx_base.proofs.Orders.{int_lt-false, ≤ℤ_trans as later}}
use Rattle.std.specs.FinMap as map

-- ---- numbers

-- a clock fits
pub clock_same : (clock : ℤ) → pos 0 ≤ℤ clock → clock ≤ℤ most_millis → to_z w64 (of_z w64 clock) ≡ clock
unfolding most_millis
clock_same (pos n) low high = let less : n ≤ 2 ^ 53 = omega (arith, ints) in let fits : FitsSigned w64 (pos n) = omega (arith, ints) in to_z-of_z fits
clock_same (negsuc n) low high = absurd (omega (arith, ints))

pub moved_by : (a b : Bool) → ◌≡◌ {A = Option Code} (if a then Some ClockBack else if b then Some ClockEnd else None) None → (a ≡ false) × (b ≡ false)
moved_by true b e = absurd (let n : Some ClockBack ≡ None = e in cc)
moved_by false true e = absurd (let n : Some ClockEnd ≡ None = e in cc)
moved_by false false e = (refl, refl)

-- and so does the one to which it moves
pub moved_same : (now next : ℤ) → pos 0 ≤ℤ now → clock_fault now next ≡ None → to_z w64 (of_z w64 next) ≡ next
moved_same now next low e =
    let r = moved_by (int_lt next now) (int_lt most_millis next) e in
    clock_same next (later (pos 0) now next low (int_lt-false next now r.0)) (int_lt-false most_millis next r.1)

pub zero_clock : (pos 0 ≤ℤ pos 0) × (pos 0 ≤ℤ most_millis)
unfolding most_millis
zero_clock = (omega (arith, ints), omega (arith, ints))

-- ---- insertions

abbrev pub numbered : Contents → TypeId → EntryId → List Value → Times → Fact
numbered k ty entry fields times = record {
  id = record { 0 = k.next_id };
  ty = ty;
  entry = entry;
  fields = fields;
  tag = record { 0 = k.next_tag };
  times = times;
}

module _ (s : Setting) (m : Memory) (k : Contents) (w : World) (st : Standing s m k w) where
  -- the numbers of a session are the world's, whatever is forgotten
  whole : Mirrors s.program (with_facts k st.seen.all) (only_present s.program w)
  whole = st.seen.whole.mirrors

  module _ (ty : TypeId) (entry : EntryId) (fields : List Value) where
    -- the new fact of the world has the session's numbers
    numbered_is : (times : Times) → times ≡ times_of (slice_get s.program.types ty.0) k.clock fields → new_fact s.program w ty.0 entry.0 fields ≡ numbered k ty entry fields times
    numbered_is times e =
        ap (λ (n : ℕ). record { id = record { 0 = n }; ty = ty; entry = entry; fields = fields; tag = record { 0 = w.next_tag }; times = times_of (slice_get s.program.types ty.0) w.clock fields }) (sym whole.next_id)
        ∙ ap (λ (n : ℕ). record { id = record { 0 = k.next_id }; ty = ty; entry = entry; fields = fields; tag = record { 0 = n }; times = times_of (slice_get s.program.types ty.0) w.clock fields }) (sym whole.next_tag)
        ∙ ap (λ (z : ℤ). numbered k ty entry fields (times_of (slice_get s.program.types ty.0) z fields)) (sym whole.clock)
        ∙ ap (numbered k ty entry fields) (sym e)

    pub insert_fault : (o : Option Code) → insert_fault_in s.program k ty.0 entry.0 fields ≡ o → step_fault s.program w (Insert ty entry fields) ≡ o
    unfolding step_fault floor
    insert_fault o e =
        let p = s.program in
        let fixed = is_reference p ty.0 in
        let of : ℤ → Option Code = λ z. new_fault (slice_get p.types ty.0) (floor_by (lateness_of p entry.0) ((reached_of k).last_start entry.0) ((reached_of k).promise entry.0) z) z fields in
        ap (λ (r : Reached). if fixed && w.begun then Some ReferenceFixed
        else new_fault (slice_get p.types ty.0) (floor_by (lateness_of p entry.0) (r.last_start entry.0) (r.promise entry.0) w.clock) w.clock fields) (sym whole.reached)
        ∙ ap (λ (z : ℤ). if fixed && w.begun then Some ReferenceFixed else of z) (sym whole.clock)
        ∙ ap (λ (b : Bool). if fixed && b then Some ReferenceFixed else of k.clock) (sym whole.begun) ∙ e

    -- the line of an insertion
    pub insert_line : (times : Times) → times ≡ times_of (slice_get s.program.types ty.0) k.clock fields
        → step_lines s.detail s.program w (Insert ty entry fields) ≡ new_line s.detail (numbered k ty entry fields times) ∷ []
    insert_line times e = ap (λ f. new_line s.detail f ∷ []) (numbered_is times e)

  -- ---- moves of the clock

  pub advance_fault : (by : ℤ) (o : Option Code) → clock_fault k.clock (k.clock +ℤ by) ≡ o → step_fault s.program w (Advance by) ≡ o
  unfolding step_fault
  advance_fault by o e = ap (λ z. clock_fault z (z +ℤ by)) (sym whole.clock) ∙ e

  pub at_fault : (moment : ℤ) (o : Option Code) → clock_fault k.clock moment ≡ o → step_fault s.program w (At moment) ≡ o
  unfolding step_fault
  at_fault moment o e = ap (λ z. clock_fault z moment) (sym whole.clock) ∙ e

  -- ---- promises

  pub promise_refused : (entry : EntryId) (from : ℤ) (o : Option Code) → promise_fault ((reached_of k).promise entry.0) from ≡ o → step_fault s.program w (Promise entry from) ≡ o
  unfolding step_fault
  promise_refused entry from o e = ap (λ (r : Reached). promise_fault (r.promise entry.0) from) (sym whole.reached) ∙ e

  -- a move by so much is one to that moment
  pub advance_at : (by clock : ℤ) → clock ≡ k.clock +ℤ by → stepped s.program w (Advance by) ≡ stepped s.program w (At clock)
  unfolding stepped moved
  advance_at by clock e = ap (λ z. settled s.program (world_at_clock w z)) (ap (λ z. z +ℤ by) (sym whole.clock) ∙ sym e)

-- the fault of a move by so much, in the session's numbers
fault_by_clock : (s : Setting) (m : Memory) (k : Contents) (w : World) (st : Standing s m k w) (by : ℤ) → step_fault s.program w (Advance by) ≡ None → clock_fault k.clock (k.clock +ℤ by) ≡ None
unfolding step_fault
fault_by_clock s m k w st by none = ap (λ z. clock_fault z (z +ℤ by)) (whole s m k w st).clock ∙ none

-- what moves as the clock does moves so much later
pub advance_moves : (s : Setting) (m : Memory) (k : Contents) (by clock : ℤ) (n : Memory) (t : Contents) → clock ≡ k.clock +ℤ by → MovesSession s m k (At clock) n t → MovesSession s m k (Advance by) n t
advance_moves s m k by clock n t e moves w st none lawful =
    let same : stepped s.program w (Advance by) ≡ stepped s.program w (At clock) = advance_at s m k w st by clock e in
    subst (Standing s n t) (sym same)
    (moves w st (at_fault s m k w st clock None (subst (λ z. clock_fault k.clock z ≡ None) (sym e) (fault_by_clock s m k w st by none))) (subst (IsLawful s.program) same lawful))

-- ---- the fault of a retraction

fault_by : (event observed reference there : Bool) → Option Code
fault_by event observed reference there =
    if event then if observed then Some EventObserved else None else if reference then Some ReferenceFixed else if there then None else Some Absent

found_by : (event observed reference : Bool) → (event && observed) ≡ false → reference ≡ false → fault_by event observed reference true ≡ None
unfolding fault_by
found_by true true reference e h = absurd (let n : true ≡ false = e in cc)
found_by true false reference e h = refl
found_by false observed true e h = absurd (let n : true ≡ false = h in cc)
found_by false observed false e h = refl

vain_by : (event observed reference there : Bool) → event ≡ true → (event && observed) ≡ false → fault_by event observed reference there ≡ None
unfolding fault_by
vain_by true true reference there e h = absurd (let n : true ≡ false = h in cc)
vain_by true false reference there e h = refl
vain_by false observed reference there e h = absurd (let n : false ≡ true = e in cc)

observed_by : (event observed reference there : Bool) → (event && observed) ≡ true → fault_by event observed reference there ≡ Some EventObserved
unfolding fault_by
observed_by true true reference there e = refl
observed_by true false reference there e = absurd (let n : false ≡ true = e in cc)
observed_by false observed reference there e = absurd (let n : false ≡ true = e in cc)

fixed_by : (event observed reference there : Bool) → event ≡ false → reference ≡ true → fault_by event observed reference there ≡ Some ReferenceFixed
unfolding fault_by
fixed_by true observed reference there e h = absurd (let n : true ≡ false = e in cc)
fixed_by false observed true there e h = refl
fixed_by false observed false there e h = absurd (let n : false ≡ true = h in cc)

absent_by : (event observed reference there : Bool) → event ≡ false → reference ≡ false → there ≡ false → fault_by event observed reference there ≡ Some Absent
unfolding fault_by
absent_by true observed reference there e r h = absurd (let n : true ≡ false = e in cc)
absent_by false observed true there e r h = absurd (let n : true ≡ false = r in cc)
absent_by false observed false true e r h = absurd (let n : true ≡ false = h in cc)
absent_by false observed false false e r h = refl

module _ (p : Program) (ty : ℕ) (o : Option Fact) where
  pub retract_found : (is_event p ty && is_observed p ty) ≡ false → is_reference p ty ≡ false → is_of_type ty o ≡ true → retract_fault p ty o ≡ None
  unfolding fault_by
  retract_found e r h = ap (fault_by (is_event p ty) (is_observed p ty) (is_reference p ty)) h ∙ found_by (is_event p ty) (is_observed p ty) (is_reference p ty) e r

  pub retract_event : (is_event p ty && is_observed p ty) ≡ false → is_event p ty ≡ true → retract_fault p ty o ≡ None
  unfolding fault_by
  retract_event e h = vain_by (is_event p ty) (is_observed p ty) (is_reference p ty) (is_of_type ty o) h e

  pub retract_observed : (is_event p ty && is_observed p ty) ≡ true → retract_fault p ty o ≡ Some EventObserved
  unfolding fault_by
  retract_observed e = observed_by (is_event p ty) (is_observed p ty) (is_reference p ty) (is_of_type ty o) e

  -- reference types are no event types
  pub retract_fixed : IsRunnable p → is_reference p ty ≡ true → retract_fault p ty o ≡ Some ReferenceFixed
  unfolding fault_by
  retract_fixed runnable e = fixed_by (is_event p ty) (is_observed p ty) (is_reference p ty) (is_of_type ty o) (runnable.references ty e) e

  pub retract_absent : is_event p ty ≡ false → is_reference p ty ≡ false → is_of_type ty o ≡ false → retract_fault p ty o ≡ Some Absent
  unfolding fault_by
  retract_absent e r h = absent_by (is_event p ty) (is_observed p ty) (is_reference p ty) (is_of_type ty o) e r h

-- ---- what the store finds

pub presented : (k : Contents) → IsSafe k.facts k.expiries k.clock k.next_id k.next_tag → (id : ℕ) (o : Option (Bor Fact)) → IfSome o (λ f. IsNewest k.facts id f.now) → IfNone o (HoldsNone k.facts id)
    → option_map (λ (f : Bor Fact). f.now) o ≡ newest k id
presented k safe id None some none = sym (store_none k id none)
presented k safe id (Some f) some none = sym (store_found k safe id f.now some)

-- ---- what the parts of a session keep to

timer_apart : (timers : Timers) (tag t : ℕ) (moment : Option ℤ) → (t ≡ tag → ⊥) → map.get (with_timer timers tag moment) t ≡ map.get timers t
timer_apart timers tag t None apart = refl
timer_apart timers tag t (Some at) apart = get-insert nat_cmp_total timers tag at t ∙ by (eq_by_cmp nat_cmp t tag) refl
  where
    by : (b : Bool) → eq_by_cmp nat_cmp t tag ≡ b → cond b (Some at) (map.get timers t) ≡ map.get timers t
    by true e = absurd (apart (tied t tag e))
    by false e = refl

pub safe_new : (facts more : HeldFacts) (timers later : Timers) (clock : ℤ) (id tag : ℕ) (f : Fact) (moment : Option ℤ) → IsSafe facts timers clock id tag → f.tag.0 ≡ tag → more ≡ map.insert facts f.tag.0 f
    → later ≡ with_timer timers f.tag.0 moment → IsSafe more later clock (id + 1) (tag + 1)
safe_new facts more timers later clock id tag f moment safe at made timed = record {
  fresh = λ t le.
      let apart : t ≡ f.tag.0 → ⊥ = λ (e : t ≡ f.tag.0). absurd (omega (arith, e, at, le)) in
      ap (λ m. map.get m t) made ∙ got_old facts f t apart ∙ safe.fresh t (omega (arith, le));
  untimed = λ t le.
      let apart : t ≡ f.tag.0 → ⊥ = λ (e : t ≡ f.tag.0). absurd (omega (arith, e, at, le)) in
      ap (λ m. map.get m t) timed ∙ timer_apart timers f.tag.0 t moment apart ∙ safe.untimed t (omega (arith, le));
  ids = let le : id ≤ tag + 2 ^ 61 = safe.ids in omega (arith, le);
  clock_low = safe.clock_low;
  clock_high = safe.clock_high;
}

pub safe_numbers : (facts : HeldFacts) (timers : Timers) (clock : ℤ) (id tag : ℕ) → IsSafe facts timers clock id tag → IsSafe facts timers clock (id + 1) (tag + 1)
safe_numbers facts timers clock id tag safe = record {
  fresh = λ t le. safe.fresh t (omega (arith, le));
  untimed = λ t le. safe.untimed t (omega (arith, le));
  ids = let le : id ≤ tag + 2 ^ 61 = safe.ids in omega (arith, le);
  clock_low = safe.clock_low;
  clock_high = safe.clock_high;
}

-- a fact less
pub fresh_less : (facts less : HeldFacts) (timers : Timers) (clock : ℤ) (id tag out : ℕ) → IsSafe facts timers clock id tag → less ≡ map.remove facts out → IsSafe less timers clock id tag
fresh_less facts less timers clock id tag out safe made = record {
  fresh = λ t le. ap (λ m. map.get m t) made ∙ none_left facts out t (safe.fresh t le);
  untimed = safe.untimed;
  ids = safe.ids;
  clock_low = safe.clock_low;
  clock_high = safe.clock_high;
}

fewer_none : (b : Bool) (o : Option ℤ) → o ≡ None → (if b then None else o) ≡ None
fewer_none true o e = refl
fewer_none false o e = e

-- and its timer
pub safe_less : (facts less : HeldFacts) (timers fewer : Timers) (clock : ℤ) (id tag out : ℕ) → IsSafe facts timers clock id tag → less ≡ map.remove facts out
    → ((t : ℕ) → map.get fewer t ≡ without_timer timers out t) → IsSafe less fewer clock id tag
safe_less facts less timers fewer clock id tag out safe made untimed =
    let s = fresh_less facts less timers clock id tag out safe made in
    record {
      fresh = s.fresh;
      untimed = λ t le. untimed t ∙ fewer_none (nat_eq out t) (map.get timers t) (safe.untimed t le);
      ids = s.ids;
      clock_low = s.clock_low;
      clock_high = s.clock_high;
    }

pub safe_again : (less more : HeldFacts) (timers : Timers) (clock : ℤ) (id tag : ℕ) (f : Fact) → IsSafe less timers clock id tag → f.tag.0 ≡ tag → more ≡ map.insert less f.tag.0 f → IsSafe more timers clock id (tag + 1)
safe_again less more timers clock id tag f safe at made =
    let s = safe_new less more timers timers clock id tag f None safe at made refl in
    record { fresh = s.fresh; untimed = s.untimed; ids = (let le : id ≤ tag + 2 ^ 61 = safe.ids in omega (arith, le)); clock_low = s.clock_low; clock_high = s.clock_high }

left_fresh : (b : Bool) (o : Option Fact) → o ≡ None → (if b then None else o) ≡ None
left_fresh true o e = refl
left_fresh false o e = e

none_kept : (b : Bool) (o : Option ℤ) → o ≡ None → cond b o None ≡ None
none_kept true o e = e
none_kept false o e = refl

-- those that are due out, at another clock
pub safe_left : (facts fewer : HeldFacts) (timers later : Timers) (clock next : ℤ) (id tag : ℕ) (gone : List ℕ) → IsSafe facts timers clock id tag → pos 0 ≤ℤ next → next ≤ℤ most_millis
    → TakesDue next timers later gone → ((t : ℕ) → map.get fewer t ≡ fact_left_at facts gone t) → IsSafe fewer later next id tag
safe_left facts fewer timers later clock next id tag gone safe low high takes left = record {
  fresh = λ t le. left t ∙ left_fresh (list_any (nat_eq t) gone) (map.get facts t) (safe.fresh t le);
  untimed = λ t le.
      ap (λ m. map.get m t) takes.rest
      ∙ get-retain_keys timers (λ key. not (is_due next timers key)) t (λ x e. ap (λ key. not (is_due next timers key)) (sym (tied t x (ap is_eq e))))
      ∙ none_kept (not (is_due next timers t)) (map.get timers t) (safe.untimed t le);
  ids = safe.ids;
  clock_low = low;
  clock_high = high;
}
