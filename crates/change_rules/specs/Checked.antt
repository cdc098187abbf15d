-- What of a program is as in every accepted rule file, as it is looked up.
use Rattle.std.specs.Prelude.{◌≡◌, ◌<◌, ℕ, List, Some, option_map, slice_get}
use Rattle.change_resolve.specs.Changes.{type_named, entry_named}
use Rattle.rule_model.specs.{declared.{condition.Condition.{Condition}, program.{EntryInfo.{EntryInfo}, TypeInfo.{TypeInfo}}}, Rows.{pattern_of}}

-- the first type of the name of each is it
abbrev pub AreFirstTypes : List TypeInfo → Type 0
AreFirstTypes types = (place : ℕ) (ty : TypeInfo) → slice_get types place ≡ Some ty → option_map (λ (there : ℕ × TypeInfo). there.0) (type_named ty.name types 0) ≡ Some place

abbrev pub AreFirstEntries : List EntryInfo → Type 0
AreFirstEntries entries = (place : ℕ) (entry : EntryInfo) → slice_get entries place ≡ Some entry → entry_named entry.name entries 0 ≡ Some place

-- of so many types and entry points
abbrev pub HasPlacesIn : ℕ → ℕ → Condition → Type 0
HasPlacesIn types entries c = ((pattern_of c).ty.0 < types) × ((pattern_of c).entry.0 < entries)

abbrev pub HaveConditionPlaces : ℕ → ℕ → List Condition → Type 0
HaveConditionPlaces types entries conditions = (place : ℕ) (c : Condition) → slice_get conditions place ≡ Some c → HasPlacesIn types entries c
