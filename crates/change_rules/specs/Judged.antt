-- What is asked of other rules, place by place.
use Rattle.std.specs.Prelude.{◌≡◌, ℕ, ℤ, true, List, Option, Some, None, slice_get}
use Rattle.fx_base.specs.declared.ids.TypeId.{TypeId}
use Rattle.rule_model.specs.declared.{life.{Life.{Life, TheVariants.{Finite}}, LifeTable.{LifeTable}}, program.{EntryInfo.{EntryInfo}, Program.{Program}}}
use Rattle.rule_model.specs.declared.program.{Rule.{Rule}, TypeInfo.{TypeInfo}}
use Rattle.rule_change.specs.{Changed.{entry_in, type_in}, Refused.{IsCountedAnew, IsFirstPlace, IsLonger, IsSameType, counts_type, is_longer}}
use Rattle.rule_change.specs.declared.code.ChangeCode.{ChangeCode, TheVariants.{OtherTypes, OtherEntries, Pending, Longer, Forgotten}}

-- the type in this place is there still, as it was
abbrev pub HasType : Program → Program → ℕ → TypeInfo → Type 0
HasType p q place ty = (there : ℕ × TypeInfo) × (type_in p q place ≡ Some there) × IsSameType ty there.1

-- the entry point in this place is there still, with its lateness
abbrev pub HasEntry : Program → Program → ℕ → EntryInfo → Type 0
HasEntry p q place entry = (there : ℕ) × (entry_in p q place ≡ Some there) × (slice_get q.entries there ≡ Some entry)

-- events of the type in this place are needed for longer than they are kept
abbrev pub IsLongerAt : List Life → List Life → ℕ → Type 0
IsLongerAt own kept ty = (needs : Life) × (slice_get own ty ≡ Some needs) × (life : Life) × (slice_get kept ty ≡ Some life) × (is_longer needs life ≡ true)

-- the type in this place was there, and its events were forgotten behind a finite life
abbrev pub Forgets : Program → Program → LifeTable → ℕ → Type 0
Forgets p q table ty = (there : ℕ × TypeInfo) × (type_in q p ty ≡ Some there) × (life : ℤ) × (slice_get table.lives there.0 ≡ Some (Finite life))

-- a new rule counts events of the type in this place
abbrev pub IsCounted : Program → (ℕ → Option ℕ) → ℕ → Type 0
IsCounted q from ty = (place : ℕ) × (rule : Rule) × (slice_get q.rules place ≡ Some rule) × (from place ≡ None) × (counts_type ty rule ≡ true)

-- the first type in whose place this holds; nothing where it holds in none
abbrev pub IsFirstType : (ℕ → Type 0) → Option TypeId → Type 0
IsFirstType Holds None = (ty : ℕ) → Holds ty → ⊥
IsFirstType Holds (Some ty) = IsFirstPlace Holds ty.0

-- What the lives say of other rules: refused with the first of these codes, or taken.
abbrev pub IsRefusedForLives : Program → Program → (ℕ → Option ℕ) → LifeTable → LifeTable → Option ChangeCode → Type 0
IsRefusedForLives p q from table own None = ((ty : ℕ) → IsLonger p q table own ty → ⊥) × ((ty : ℕ) → IsCountedAnew p q from table ty → ⊥)
IsRefusedForLives p q from table own (Some (Longer ty)) = IsFirstPlace (IsLonger p q table own) ty.0
IsRefusedForLives p q from table own (Some (Forgotten ty)) = ((other : ℕ) → IsLonger p q table own other → ⊥) × IsFirstPlace (IsCountedAnew p q from table) ty.0
IsRefusedForLives p q from table own (Some OtherTypes) = ⊥
IsRefusedForLives p q from table own (Some OtherEntries) = ⊥
IsRefusedForLives p q from table own (Some Pending) = ⊥
