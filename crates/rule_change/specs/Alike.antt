-- What rules that stay have in a world and in one under other rules: the same matches, the same of them pending, step by step.
use Rattle.std.specs.Prelude.{◌≡◌, ◌<◌, ℕ, map, length, Option, Some, None, slice_get}
use Rattle.fx_base.specs.Lists.{In}
use Rattle.rule_model.specs.declared.{condition.Condition.{Condition}, matched.Match.{Match}, program.{EntryInfo.{EntryInfo}, Program.{Program}, Rule.{Rule}}}
use Rattle.rule_model.specs.declared.{program.TypeInfo.{TypeInfo}, step.Step.{Step, TheVariants.{Insert, Modify, Retract, Advance, At, Promise, Begin}}}
use Rattle.rule_model.specs.{Matches.{has_match}, Rows.{pattern_of}, Types.{is_observed}}
use Rattle.rule_world.specs.{Lawful.{IsLawful}, Programs.{IsRunnable}, Worlds.{World, pending, marked, stepped, step_fault}}
use Rattle.rule_change.specs.{Changed.{AreFrom, changed, moved_fact, new_type, new_entry}, Refused.{HaveTypes, HaveEntries}}

-- a match of a new rule that stays, as one of the old rule in this place
abbrev pub as_old : ℕ → Match → Match
as_old old m = record m { rule = record { 0 = old } }

-- The facts, the clock, the numbers and the moments are the same, and so are the marks of the rules that stay.
pub record AreAlike (p q : Program) (from : ℕ → Option ℕ) (w w' : World) : Type 0 where
  pub facts : w'.facts ≡ map (moved_fact p q) w.facts
  pub clock : w'.clock ≡ w.clock
  pub begun : w'.begun ≡ w.begun
  pub next_id : w'.next_id ≡ w.next_id
  pub next_tag : w'.next_tag ≡ w.next_tag
  pub last_starts : (entry : ℕ) → entry < length p.entries → w'.reached.last_start (new_entry p q entry) ≡ w.reached.last_start entry
  pub promises : (entry : ℕ) → entry < length p.entries → w'.reached.promise (new_entry p q entry) ≡ w.reached.promise entry
  pub fired : (m : Match) (old : ℕ) → from m.rule.0 ≡ Some old → has_match w'.fired m ≡ has_match w.fired (as_old old m)

-- a step of the old rules, as one of the new ones
abbrev pub moved_step : Program → Program → Step → Step
moved_step p q (Insert ty entry fields) = Insert (record { 0 = new_type p q ty.0 }) (record { 0 = new_entry p q entry.0 }) fields
moved_step p q (Modify id sets) = Modify id sets
moved_step p q (Retract ty id) = Retract (record { 0 = new_type p q ty.0 }) id
moved_step p q (Advance by) = Advance by
moved_step p q (At moment) = At moment
moved_step p q (Promise entry from) = Promise (record { 0 = new_entry p q entry.0 }) from
moved_step p q Begin = Begin

-- the step names types and entry points of the rules
abbrev pub IsStepOf : Program → Step → Type 0
IsStepOf p (Insert ty entry fields) = (ty.0 < length p.types) × (entry.0 < length p.entries)
IsStepOf p (Modify id sets) = Unit {0}
IsStepOf p (Retract ty id) = ty.0 < length p.types
IsStepOf p (Advance by) = Unit {0}
IsStepOf p (At moment) = Unit {0}
IsStepOf p (Promise entry from) = entry.0 < length p.entries
IsStepOf p Begin = Unit {0}

-- The types and the entry points of patterns are the program's, as in every accepted rule file (no clause of its checks says so yet). Types of inserting
-- actions are so by `is_typed`.
abbrev pub HasPlaces : Program → Condition → Type 0
HasPlaces p c = ((pattern_of c).ty.0 < length p.types) × ((pattern_of c).entry.0 < length p.entries)

abbrev pub HavePlaces : Program → Type 0
HavePlaces p = (rule : Rule) → In rule p.rules → (c : Condition) → In c rule.conditions → HasPlaces p c

-- no two types and no two entry points have one name, as in every accepted rule file
pub record HaveNames (p : Program) : Type 0 where
  pub types : (a b : ℕ) (one other : TypeInfo) → slice_get p.types a ≡ Some one → slice_get p.types b ≡ Some other → one.name ≡ other.name → a ≡ b
  pub entries : (a b : ℕ) (one other : EntryInfo) → slice_get p.entries a ≡ Some one → slice_get p.entries b ≡ Some other → one.name ≡ other.name → a ≡ b

-- the new rules keep the types and the entry points of the old ones
pub record AreOver (p q : Program) (from : ℕ → Option ℕ) : Type 0 where
  pub runnable : IsRunnable p
  pub other_runnable : IsRunnable q
  pub places : HavePlaces p
  pub names : HaveNames p
  pub other_names : HaveNames q
  pub have_types : HaveTypes p q
  pub have_entries : HaveEntries p q
  pub are_from : AreFrom p q from

-- ---- what holds

-- the world under the new rules is lawful, and alike
abbrev pub AlikeAtChange : Type 0
AlikeAtChange = (p q : Program) (from : ℕ → Option ℕ) (w : World) → AreOver p q from → IsLawful p w
    → IsLawful q (changed p q from w) × AreAlike p q from w (changed p q from w)

-- A rule that stays has the same pending. A fact of no type of the old program would be moved to the first type of the new one, so the old world is lawful.
abbrev pub SamePending : Type 0
SamePending = (p q : Program) (from : ℕ → Option ℕ) (w w' : World) → AreOver p q from → IsLawful p w → AreAlike p q from w w'
    → (m : Match) (old : ℕ) → from m.rule.0 ≡ Some old → has_match (pending q w') m ≡ has_match (pending p w) (as_old old m)

-- the same steps have the same faults, but for a retraction of events that are observed by some of the rules alone; the old world is lawful, as above
abbrev pub SameFault : Type 0
SameFault = (p q : Program) (from : ℕ → Option ℕ) (w w' : World) → AreOver p q from → IsLawful p w → AreAlike p q from w w'
    → ((ty : ℕ) → ty < length p.types → is_observed q (new_type p q ty) ≡ is_observed p ty)
    → (step : Step) → IsStepOf p step → step_fault q w' (moved_step p q step) ≡ step_fault p w step

-- the same steps lead to worlds that are alike; the old world is lawful, as above
abbrev pub AlikeSteps : Type 0
AlikeSteps = (p q : Program) (from : ℕ → Option ℕ) (w w' : World) → AreOver p q from → IsLawful p w → AreAlike p q from w w'
    → (step : Step) → IsStepOf p step → AreAlike p q from (stepped p w step) (stepped q w' (moved_step p q step))

-- so does a match of a rule that stays which is marked in both
abbrev pub AlikeMarked : Type 0
AlikeMarked = (p q : Program) (from : ℕ → Option ℕ) (w w' : World) → AreFrom p q from → AreAlike p q from w w'
    → (m : Match) (old : ℕ) → from m.rule.0 ≡ Some old → AreAlike p q from (marked w (as_old old m)) (marked w' m)

-- and one of a rule that is new, or gone, which is marked in one of them alone
abbrev pub AlikeWithout : Type 0
AlikeWithout = (p q : Program) (from : ℕ → Option ℕ) (w w' : World) → AreAlike p q from w w'
    → (m : Match) → ((from m.rule.0 ≡ None → AreAlike p q from w (marked w' m))
    × (((new : ℕ) → from new ≡ Some m.rule.0 → ⊥) → AreAlike p q from (marked w m) w'))
