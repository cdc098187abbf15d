-- Changes ask a session for what they ask the world for, and lead from lawful worlds to lawful ones.
use Rattle.session_model.proofs.Common.{◌≡◌, ℕ, Bool, true, false, List, Option, Some, None, Result, Err, refl, ◌∙◌, ap, subst, Fact, FactId, Program, TypeInfo}
use Rattle.session_model.proofs.Common.{Step, is_event, is_event_type, Code, EventFixed, ReferenceFixed, Absent, sets_fit, IsLawful, IsOrdered, IsRunnable}
use Rattle.session_model.proofs.Common.{event_by, found_fits, World, found, is_of_type, Change, Given, entry_asked, fields_step, insert_step, modify_step}
use Rattle.session_model.proofs.Common.{Detail, type_named, asked_fits, stands, type_stands, Memory, Setting, FitsWorld, IsOfPlain, newest, Contents, Runs}
use Rattle.session_model.{proofs.{Common.{Standing}, Doing.{does_lawful, plain_fit}, Looking.{same_of_type}}, specs.Gives.{gives_in}}
use Rattle.{std.specs.Prelude.{if◌then◌else◌}, rule_world.specs.Kinds.{step_fits}, script_read.specs.declared.asked.Change.TheVariants.{Insert, Modify}}
use Rattle.{script_read.specs.declared.asked.Change.TheVariants.{Retract, Advance, At, Promise, Begin}, change_resolve.specs.Changes.{change_step}}
use Rattle.rule_model.specs.declared.step.Step.TheVariants as step

-- ---- what is asked for

module _ (s : Setting) (m : Memory) (k : Contents) (w : World) (runs : Runs s) (st : Standing s m k w) where
  -- a modification looks at the fact only where its type is a plain one
  same_modified : (name : List ℕ) (id : FactId) (members : List (List ℕ × Given)) (found_type : Option (ℕ × TypeInfo)) → type_named name s.program.types 0 ≡ found_type
      → modify_step found_type id (newest k id.0) members ≡ modify_step found_type id (found s.program w id.0) members
  same_modified name id members None e = refl
  same_modified name id members (Some ty) e =
      by ty.1.event refl (is_of_type ty.0 (newest k id.0)) (is_of_type ty.0 (found s.program w id.0)) (λ fixed. same_of_type s m k w runs st ty.0 id.0 (plain fixed))
    where
      tested : Bool → Bool → Result Step Code
      tested b there = if b then Err EventFixed else if ty.1.reference then Err ReferenceFixed else if there then fields_step id ty.1.fields members else Err Absent

      plain : ty.1.event ≡ false → is_event s.program ty.0 ≡ false
      plain fixed = event_by s.program ty.0 ∙ ap is_event_type (stands s.program.types ty.0 ty.1 (type_stands name s.program.types 0 ty e)) ∙ fixed

      by : (b : Bool) → ty.1.event ≡ b → (a c : Bool) → (ty.1.event ≡ false → a ≡ c) → tested b a ≡ tested b c
      by true fixed a c same = refl
      by false fixed a c same = ap (tested false) (same fixed)

  -- so each change asks for the same
  pub same_asked : (change : Change) → change_step s.program k.course.begun (newest k) change ≡ change_step s.program w.begun (found s.program w) change
  unfolding change_step
  same_asked (Insert ty entry members) =
      ap (λ begun. insert_step begun (type_named ty s.program.types 0) (entry_asked entry s.program.entries) members) st.seen.whole.mirrors.begun
  same_asked (Modify ty id members) = same_modified ty id members (type_named ty s.program.types 0) refl
  same_asked (Retract ty id) = refl
  same_asked (Advance by) = refl
  same_asked (At moment) = refl
  same_asked (Promise entry from) = refl
  same_asked Begin = refl

-- ---- it fits

fits_plain : (p : Program) (w : World) (asked : Step) → step_fits p (found p w) asked ≡ true → IsOfPlain p w asked
unfolding step_fits
fits_plain p w (step.Insert ty entry fields) fit = tt
fits_plain p w (step.Modify id sets) fit = λ f there. plain_fit p f sets (subst (λ (o : Option Fact). sets_fit p o sets ≡ true) there fit)
fits_plain p w (step.Retract ty id) fit = tt
fits_plain p w (step.Advance by) fit = tt
fits_plain p w (step.At moment) fit = tt
fits_plain p w (step.Promise entry from) fit = tt
fits_plain p w step.Begin fit = tt

-- what a change asks for fits
pub change_fits : (p : Program) (w : World) (change : Change) → IsRunnable p → IsOrdered p w → FitsWorld p w (change_step p w.begun (found p w) change)
change_fits p w change runnable o asked e =
    let fit : step_fits p (found p w) asked ≡ true = asked_fits p w.begun (found p w) change asked runnable.some_entry e in
    record { plain = fits_plain p w asked fit; fits = λ none. found_fits p w asked o fit }

pub gives_lawful : (d : Detail) (p : Program) (w : World) (change : Change) → IsRunnable p → IsLawful p w → IsLawful p (gives_in d p w change).1
unfolding gives_in
gives_lawful d p w change runnable l = does_lawful d p w (change_step p w.begun (found p w) change) l (change_fits p w change runnable l.ordered)
