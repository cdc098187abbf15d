-- Programs that engines run are flagged; patterns on reference types in them, and steps that leave facts of these types as they are.
use Rattle.life_laws.proofs.Common.{◌≡◌, ◌⊎◌, ◌&&◌, ◌||◌, ℕ, Bool, true, false, List, [], ◌∷◌, ◌++◌, Option, Some, None, if◌then◌else◌, refl, sym, ◌∙◌, ap, inl}
use Rattle.life_laws.proofs.Common.{inr, slice_get, In, Fact, Value, Condition, Pattern, WindowTag, Whole, Time, Length, Program, Rule, Step, Insert, Modify}
use Rattle.life_laws.proofs.Common.{Retract, Advance, At, Promise, Begin, pattern_of, is_event, is_reference, is_observed, in_place, EventObserved}
use Rattle.life_laws.proofs.Common.{ReferenceFixed, Absent, IsLawful, World, insert_fault, modify_fault, retract_fault, is_of_type, new_fact, IsFlagged}
use Rattle.{life_laws.proofs.Common.{is_whole, EventFixed, is_window, has_window, has_windows, IsRunnable, inserted}, rule_world.specs.Worlds.{moved}}
use Rattle.{rule_world.{specs.Worlds.{step_fault}, proofs.Acting.{all_of}}, fx_base.proofs.Sequences.{In-append}}

-- ---- programs

whole_by : (window : WindowTag) (event : Bool) → event ≡ false → (is_whole window || event && is_window window) ≡ true → window ≡ Whole
whole_by Whole event e h = refl
whole_by (Time span) false e h = absurd cc
whole_by (Time span) true e h = absurd cc
whole_by (Length count) false e h = absurd cc
whole_by (Length count) true e h = absurd cc

-- the program of every accepted rule file is flagged
pub flagged : (p : Program) → IsRunnable p → IsFlagged p
flagged p runnable = record {
  observed = runnable.observed;
  references = runnable.references;
  windows = λ rule in_rules c stands plain.
      whole_by (pattern_of c).window (is_event p (pattern_of c).ty.0) plain
      (all_of (has_window p) rule.conditions c (all_of (has_windows p) p.rules rule runnable.windows in_rules) stands);
}

-- ---- patterns on reference types

-- the pattern is on a reference type: each of its facts is present at every clock, and in its window
pub record Steady (p : Program) (q : Pattern) : Type 0 where
  pub plain : is_event p q.ty.0 ≡ false
  pub reference : is_reference p q.ty.0 ≡ true
  pub is_whole : q.window ≡ Whole

pub steady_of : (p : Program) (rule : Rule) → IsFlagged p → In rule p.rules → (k : ℕ) (d : Condition) → slice_get rule.conditions k ≡ Some d → is_reference p (pattern_of d).ty.0 ≡ true
    → Steady p (pattern_of d)
steady_of p rule flagged in_rules k d at_k e =
    let plain = flagged.references (pattern_of d).ty.0 e in
    record { plain = plain; reference = e; is_whole = flagged.windows rule in_rules d (in_place rule.conditions k d at_k) plain }

-- ---- steps

-- what is modified is of no reference type
pub modified_open : (p : Program) (found : Option Fact) (f : Fact) → modify_fault p found ≡ None → found ≡ Some f → is_reference p f.ty.0 ≡ false
modified_open p found f none e = by (is_event p f.ty.0) (is_reference p f.ty.0) (ap (modify_fault p) (sym e) ∙ none)
  where
    by : (a b : Bool) → (if a then Some EventFixed else if b then Some ReferenceFixed else None) ≡ None → b ≡ false
    by true b h = absurd cc
    by false true h = absurd cc
    by false false h = refl

-- what is retracted and no event is of no reference type
pub retracted_open : (p : Program) (ty : ℕ) (there : Option Fact) → retract_fault p ty there ≡ None → is_event p ty ≡ false → is_reference p ty ≡ false
retracted_open p ty there none plain = by (is_event p ty) (is_reference p ty) plain none
  where
    by : (a b : Bool) → a ≡ false → (if a then (if is_observed p ty then Some EventObserved else None) else if b then Some ReferenceFixed else if is_of_type ty there then None else Some Absent) ≡ None
        → b ≡ false
    by true b e h = absurd cc
    by false true e h = absurd cc
    by false false e h = refl

-- the step inserts no fact of a reference type
abbrev pub Quiet : Program → Step → Type 0
Quiet p (Insert ty entry fields) = is_reference p ty.0 ≡ false
Quiet p (Modify id sets) = Unit {0}
Quiet p (Retract ty id) = Unit {0}
Quiet p (Advance by) = Unit {0}
Quiet p (At moment) = Unit {0}
Quiet p (Promise entry from) = Unit {0}
Quiet p Begin = Unit {0}

not_second : (a b : Bool) → a ≡ true → (a && b) ≡ false → b ≡ false
not_second true b e h = h
not_second false b e h = absurd cc

module _ (p : Program) (w : World) (x : Fact) (flagged : IsFlagged p) (law : IsLawful p w) (event : is_event p x.ty.0 ≡ true) where
  no_event : is_event p x.ty.0 ≡ false → ⊥
  no_event e = let n : true ≡ false = sym event ∙ e in absurd cc

  quiet_insert : (ty entry : ℕ) (fields : List Value) → insert_fault p w ty entry fields ≡ None → In x w.facts ⊎ In x (w.facts ++ new_fact p w ty entry fields ∷ []) → is_reference p ty ≡ false
  quiet_insert ty entry fields none inside = by (is_reference p ty) refl
    where
      before : is_reference p ty ≡ true → In x w.facts → ⊥
      before e i = no_event (law.unbegun (not_second (is_reference p ty) w.begun e (inserted p w ty entry fields none).0) x i)

      by : (b : Bool) → is_reference p ty ≡ b → is_reference p ty ≡ false
      by false e = e
      by true e = elim inside [
        | inl i ↦ absurd (before e i)
        | inr i ↦ elim (In-append x w.facts (new_fact p w ty entry fields ∷ []) i) [
          | inl j ↦ absurd (before e j)
          | inr (inl new) ↦ absurd (no_event (ap (λ (f : Fact). is_event p f.ty.0) new ∙ flagged.references ty e))
          | inr (inr none) ↦ absurd none
        ]
      ]

  -- while an event is there before the step or behind it, no fact of a reference type comes
  pub quiet_of : (step : Step) → step_fault p w step ≡ None → In x w.facts ⊎ In x (moved p w step).facts → Quiet p step
  unfolding moved step_fault
  quiet_of (Insert ty entry fields) none inside = quiet_insert ty.0 entry.0 fields none inside
  quiet_of (Modify id sets) none inside = tt
  quiet_of (Retract ty id) none inside = tt
  quiet_of (Advance by) none inside = tt
  quiet_of (At moment) none inside = tt
  quiet_of (Promise entry from) none inside = tt
  quiet_of Begin none inside = tt
