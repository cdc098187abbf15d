-- Steps that are done or refused lead from lawful worlds to lawful ones, and facts keep their types.
use Rattle.session_model.proofs.Common.{◌≡◌, ◌&&◌, not, inl, inr, ℕ, Bool, true, false, List, [], ◌∷◌, Option, Some, None, slice_get, Result, Ok, Err, refl}
use Rattle.session_model.proofs.Common.{sym, ◌∙◌, ap, list_all, TypeId, Value, Fact, Program, TypeInfo, Step, Insert, Modify, Retract, Advance, At, Promise}
use Rattle.session_model.proofs.Common.{Begin, is_event, is_event_type, Code, set_fits, sets_fit, IsLawful, IsOrdered, World, fact_of, step_fault, event_by}
use Rattle.session_model.proofs.Common.{found_there, step_lawful, Stays, fits_later, same_stays, stays_on, step_stays, type_stays, does, tries_with, AllFit}
use Rattle.{session_model.{proofs.Common.{Detail, FitsWorld, IsOfPlain}, specs.Gives.{does_all}}, rule_world.specs.Kinds.{step_fits}}
use Rattle.rule_world.proofs.Fitting.{sets_of_type}

-- a step that is done, or a fault
pub does_lawful : (d : Detail) (p : Program) (w : World) (wanted : Result Step Code) → IsLawful p w → FitsWorld p w wanted → IsLawful p (does d p w wanted).1
does_lawful d p w (Err code) l fits = l
does_lawful d p w (Ok step) l fits = by (step_fault p w step) refl
  where
    by : (fault : Option Code) → step_fault p w step ≡ fault → IsLawful p (tries_with d p w step fault).1
    by None none = step_lawful p w step l ((fits step refl).fits none) none
    by (Some code) e = l

pub does_stays : (d : Detail) (p : Program) (w : World) (wanted : Result Step Code) → IsOrdered p w → Stays w (does d p w wanted).1
does_stays d p w (Err code) o = same_stays w w refl refl
does_stays d p w (Ok step) o = by (step_fault p w step)
  where
    by : (fault : Option Code) → Stays w (tries_with d p w step fault).1
    by None = step_stays p w step o
    by (Some code) = same_stays w w refl refl

-- ---- what is modified is no event

-- values fit a plain fact alone
pub plain_fit : (p : Program) (f : Fact) (sets : List (ℕ × Value)) → sets_fit p (Some f) sets ≡ true → is_event p f.ty.0 ≡ false
plain_fit p f sets fit = by (slice_get p.types f.ty.0) refl
  where
    none : (ty : TypeInfo) (b : Bool) → (not b && list_all (set_fits ty.fields) sets) ≡ true → b ≡ false
    none ty true h = absurd (let n : false ≡ true = h in cc)
    none ty false h = refl

    by : (info : Option TypeInfo) → slice_get p.types f.ty.0 ≡ info → is_event p f.ty.0 ≡ false
    by None e = event_by p f.ty.0 ∙ ap is_event_type e
    by (Some ty) e = event_by p f.ty.0 ∙ ap is_event_type e ∙ none ty ty.event (sym (sets_of_type p f sets ty e) ∙ fit)

-- and in each later world it is of the same type, where it is still there
plain_later : (p : Program) (v u : World) (id : ℕ) (sets : List (ℕ × Value)) → IsOrdered p v → Stays v u → sets_fit p (fact_of v.facts id) sets ≡ true
    → (g : Fact) → fact_of u.facts id ≡ Some g → is_event p g.ty.0 ≡ false
plain_later p v u id sets first stays fit g there = by (fact_of v.facts id) refl fit
  where
    by : (o : Option Fact) → fact_of v.facts id ≡ o → sets_fit p o sets ≡ true → is_event p g.ty.0 ≡ false
    by None e h = absurd (let n : false ≡ true = h in cc)
    by (Some f) e h = ap (λ (ty : TypeId). is_event p ty.0) (type_stays p v u id f g first stays e there) ∙ plain_fit p f sets h

of_plain_later : (p : Program) (v u : World) (step : Step) → IsOrdered p v → IsOrdered p u → Stays v u → step_fits p (fact_of v.facts) step ≡ true → IsOfPlain p u step
unfolding step_fits
of_plain_later p v u (Insert ty entry fields) first o stays fit = tt
of_plain_later p v u (Modify id sets) first o stays fit = λ g there. plain_later p v u id.0 sets first stays fit g (found_there p u id.0 g o there)
of_plain_later p v u (Retract ty id) first o stays fit = tt
of_plain_later p v u (Advance by) first o stays fit = tt
of_plain_later p v u (At moment) first o stays fit = tt
of_plain_later p v u (Promise entry from) first o stays fit = tt
of_plain_later p v u Begin first o stays fit = tt

-- ---- a plan, which fits the world of the firing

module _ (p : Program) (v : World) (first : IsOrdered p v) where
  -- what is next suits the world that the others led to
  pub next_fits : (u : World) (wanted : Result Step Code) (plan : List (Result Step Code)) → AllFit p v (wanted ∷ plan) → IsOrdered p u → Stays v u → FitsWorld p u wanted
  next_fits u wanted plan fit o stays step e = record {
    plain = of_plain_later p v u step first o stays (fit step (inl (sym e)));
    fits = λ none. fits_later p v u step first stays (fit step (inl (sym e))) none;
  }

  pub all_lawful : (d : Detail) (u : World) (plan : List (Result Step Code)) → AllFit p v plan → IsLawful p u → Stays v u → IsLawful p (does_all d p u plan).1
  unfolding does_all
  all_lawful d u [] fit l stays = l
  all_lawful d u (wanted ∷ plan) fit l stays =
      all_lawful d (does d p u wanted).1 plan (λ step i. fit step (inr i)) (does_lawful d p u wanted l (next_fits u wanted plan fit l.ordered stays))
      (stays_on v u (does d p u wanted).1 stays (does_stays d p u wanted l.ordered))
