-- What is not kept is inside no window of time, then and later.
use Rattle.kept_laws.proofs.Common.{◌≡◌, ◌∙◌, ◌&&◌, ◌==◌, ℤ, ◌+ℤ◌, ◌-ℤ◌, ◌≤ℤ◌, ◌<ℤ◌, Bool, true, false, [], Option, Some, None, refl, sym, ap, slice_get, In}
use Rattle.kept_laws.proofs.Common.{Fact, Condition, WindowTag, Time, Life, Plain, Explicit, Finite, Infinite, LifeTable, Program, Rule, is_inside}
use Rattle.kept_laws.proofs.Common.{is_candidate, is_present, pattern_of, Snapshot, tests_hold, unbound, IsLawful, World, was_present, AreSafe, IsLife, finite}
use Rattle.kept_laws.proofs.{Common.{lives_below, is_alive, is_kept, eqb-true, false_from_ne_true, In-place}, Staying.{after_life, after_less, not_below}}
use Rattle.{kept_laws.proofs.Staying.{too_old, later_too}, kept_meaning.proofs.Decided.{not_alive}}

-- no candidate, where the facts of the type are not inside
none_by : (a t r c : Bool) → (t ≡ true → c ≡ false) → ((a && (t && r)) && c) ≡ false
none_by false t r c h = refl
none_by true false r c h = refl
none_by true true false c h = refl
none_by true true true c h = h refl

module _ (p : Program) (table : LifeTable) (w : World) (are : AreSafe p table) (law : IsLawful p w) (f : Fact) (inside : In f w.facts) (lost : is_kept p table w f ≡ false)
    (rule : Rule) (in_rules : In rule p.rules) (c : Condition) (in_c : In c rule.conditions) (span : ℤ) (at : (pattern_of c).window ≡ Time span) (s : Snapshot) (from : w.clock ≤ℤ s.clock) where
  abbrev alone : Bool
  alone = f.entry.0 == (pattern_of c).entry.0 && tests_hold unbound f (pattern_of c).alone

  abbrev within : Bool
  within = is_inside p (pattern_of c) (pattern_of c).window s.clock s.facts f

  gone : is_present p w.clock f ≡ false → is_candidate p (pattern_of c) s f ≡ false
  gone absent =
      let absent_too = false_from_ne_true (is_present p s.clock f) (λ h. let n : true ≡ false = sym (was_present p f w.clock s.clock from h) ∙ absent in absurd cc) in
      ap (λ b. (b && (f.ty.0 == (pattern_of c).ty.0 && alone)) && within) absent_too

  past : (n : ℤ) → IsLife p f.ty.0 (finite n) → (f.times.end +ℤ n) <ℤ w.clock → is_candidate p (pattern_of c) s f ≡ false
  past n life after =
      let k = In-place c rule.conditions in_c in
      let order = ((law.sound f inside).timed life.event).event.ordered in
      none_by (is_present p s.clock f) (f.ty.0 == (pattern_of c).ty.0) alone within (λ t.
      let longer : span ≤ℤ n =
      lives_below p f.ty.0 n rule (record { place = k.0; condition = c }) life in_rules k.1 (sym (eqb-true f.ty.0 (pattern_of c).ty.0 t)) (Time span) (finite span) at refl in
      ap (λ (v : WindowTag). is_inside p (pattern_of c) v s.clock s.facts f) at
      ∙ not_below (s.clock -ℤ f.times.start) span (too_old s.clock f.times.start f.times.end n span order (later_too (f.times.end +ℤ n) w.clock s.clock after from) longer))

  by_life : (life : Option Life) → slice_get table.lives f.ty.0 ≡ life → is_alive p life w.clock f ≡ false → is_candidate p (pattern_of c) s f ≡ false
  by_life None is e = absurd (let n : true ≡ false = e in cc)
  by_life (Some Plain) is e = absurd (let n : true ≡ false = e in cc)
  by_life (Some (Explicit expiry)) is e = gone e
  by_life (Some (Finite n)) is e =
      let life = are.each f.ty.0 (Finite n) is in
      past life.0 life.1 (after_less f.times.end life.0 n w.clock life.2 (after_life w.clock (f.times.end +ℤ n) e))
  by_life (Some Infinite) is e = absurd (let n : true ≡ false = e in cc)

  pub in_no_window : is_candidate p (pattern_of c) s f ≡ false
  in_no_window = by_life (slice_get table.lives f.ty.0) refl (not_alive p table w are f lost)
