-- When other rules are refused over a world, and why. `table` has the lives by which its events were forgotten, `own` those of the new rules.
use Rattle.std.specs.{Prelude.{◌≡◌, ◌<◌, ◌&&◌, ◌==◌, ℕ, ℤ, int_lt, Bool, true, false, Option, Some, None, slice_get}, List.{list_any}}
use Rattle.rule_model.specs.declared.{condition.Condition.{Condition}, life.{Life.{Life, TheVariants.{Finite, Infinite}}, LifeTable.{LifeTable}}}
use Rattle.rule_model.specs.declared.{matched.Match.{Match}, program.{EntryInfo.{EntryInfo}, Program.{Program}, Rule.{Rule}, TypeInfo.{TypeInfo}}}
use Rattle.rule_model.specs.{Matches.{has_match}, Rows.{pattern_of}, Simple.{observes}}
use Rattle.rule_world.specs.Worlds.{World, pending}
use Rattle.rule_change.specs.{declared.code.ChangeCode.{ChangeCode, TheVariants.{OtherTypes, OtherEntries, Pending, Longer, Forgotten}}, Changed.{type_in}}
use Rattle.rule_change.specs.Changed.{entry_in, carried}

-- ---- what has to be so

-- all that a rule file says of a type; whether its events are observed the rules say
pub record IsSameType (a b : TypeInfo) : Type 0 where
  pub name : a.name ≡ b.name
  pub event : a.event ≡ b.event
  pub reference : a.reference ≡ b.reference
  pub fields : a.fields ≡ b.fields
  pub timestamp : a.timestamp ≡ b.timestamp
  pub duration : a.duration ≡ b.duration
  pub expires : a.expires ≡ b.expires

-- each type is there still, as it was
abbrev pub HaveTypes : Program → Program → Type 0
HaveTypes p q = (place : ℕ) (ty : TypeInfo) → slice_get p.types place ≡ Some ty → (there : ℕ × TypeInfo) × (type_in p q place ≡ Some there) × IsSameType ty there.1

-- each entry point is there still, with its lateness
abbrev pub HaveEntries : Program → Program → Type 0
HaveEntries p q = (place : ℕ) (entry : EntryInfo) → slice_get p.entries place ≡ Some entry
    → (there : ℕ) × (entry_in p q place ≡ Some there) × (slice_get q.entries there ≡ Some entry)

-- no rule that is gone has a pending match
abbrev pub NonePending : Program → (ℕ → Option ℕ) → World → Type 0
NonePending p from w = (m : Match) → has_match (pending p w) m ≡ true → (new : ℕ) × (from new ≡ Some m.rule.0)

-- ---- lives that are not safe for the new rules

abbrev pub is_longer : Life → Life → Bool
is_longer (Finite own) (Finite life) = int_lt life own
is_longer Infinite (Finite life) = true
is_longer _ _ = false

-- the new rules need events of the type in this place for longer than they were kept; of a type that is new they need them for no longer
pub record IsLonger (p q : Program) (table own : LifeTable) (ty : ℕ) : Type 0 where
  pub needs : Life
  pub needed : slice_get own.lives ty ≡ Some needs
  pub life : Life
  pub kept : slice_get (carried p q table own).lives ty ≡ Some life
  pub longer : is_longer needs life ≡ true

-- ---- what is counted anew

-- the rule has a `not`, an `exists`, an `accumulate` or a window of length over a type
abbrev pub counts_type : ℕ → Rule → Bool
counts_type ty rule = list_any (λ (c : Condition). observes c && (pattern_of c).ty.0 == ty) rule.conditions

-- a new rule counts events of the type in this place, of which those past a finite life were forgotten
pub record IsCountedAnew (p q : Program) (from : ℕ → Option ℕ) (table : LifeTable) (ty : ℕ) : Type 0 where
  pub place : ℕ
  pub rule : Rule
  pub stands : slice_get q.rules place ≡ Some rule
  pub new : from place ≡ None
  pub counts : counts_type ty rule ≡ true
  pub there : ℕ × TypeInfo
  pub was : type_in q p ty ≡ Some there
  pub life : ℤ
  pub forgets : slice_get table.lives there.0 ≡ Some (Finite life)

-- ---- the answer

-- the first place of which this holds
pub record IsFirstPlace (Holds : ℕ → Type 0) (place : ℕ) : Type 0 where
  pub holds : Holds place
  pub none_before : (earlier : ℕ) → earlier < place → Holds earlier → ⊥

-- What other rules are over a world: refused with the first of these codes, or taken.
abbrev pub IsVerdict : Program → Program → (ℕ → Option ℕ) → LifeTable → LifeTable → World → Option ChangeCode → Type 0
IsVerdict p q from table own w (Some OtherTypes) = HaveTypes p q → ⊥
IsVerdict p q from table own w (Some OtherEntries) = HaveTypes p q × (HaveEntries p q → ⊥)
IsVerdict p q from table own w (Some Pending) = HaveTypes p q × HaveEntries p q × (NonePending p from w → ⊥)
IsVerdict p q from table own w (Some (Longer ty)) =
    HaveTypes p q × HaveEntries p q × NonePending p from w × IsFirstPlace (IsLonger p q table own) ty.0
IsVerdict p q from table own w (Some (Forgotten ty)) =
    HaveTypes p q × HaveEntries p q × NonePending p from w × ((other : ℕ) → IsLonger p q table own other → ⊥)
    × IsFirstPlace (IsCountedAnew p q from table) ty.0
IsVerdict p q from table own w None =
    HaveTypes p q × HaveEntries p q × NonePending p from w × ((ty : ℕ) → IsLonger p q table own ty → ⊥)
    × ((ty : ℕ) → IsCountedAnew p q from table ty → ⊥)
