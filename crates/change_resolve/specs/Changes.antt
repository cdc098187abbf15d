-- The step that a change of the script asks for, or its fault. The faults are tried in their order.
use Rattle.std.specs.{Prelude.{ℕ, ◌+◌, ◌&&◌, Bool, List, [], ◌∷◌, Option, Some, None, Result, Ok, Err, ℤ, if◌then◌else◌}, Str.{bytes_eq}}
use Rattle.fx_base.specs.declared.{ids.FactId.{FactId}, kind.Kind.{Kind}, value.Value.{Value}, fact.Fact.{Fact}}
use Rattle.rule_model.specs.declared.{program.{EntryInfo.{EntryInfo}, Program.{Program}, TypeInfo.{TypeInfo}}, step.Step.{Step}}
use Rattle.script_read.specs.declared.{given.Given.{Given}, asked.Change.{Change, TheVariants.{Insert, Modify, Retract, Advance, At, Promise, Begin}}}
use Rattle.rule_world.specs.declared.code.Code.{Code, TheVariants.{UnknownType, UnknownEntry, EventFixed, ReferenceFixed, Absent, BadFields, BadValue}}
use Rattle.rule_world.specs.Worlds.{is_of_type}
use Rattle.change_resolve.specs.Fields.{are_fields, are_some_fields, values_given, sets_given}
use Rattle.rule_model.specs.declared.step.Step.TheVariants as step

-- the declared type of a name, and its place, the first type having this one
unfoldable pub type_named : List ℕ → List TypeInfo → ℕ → Option (ℕ × TypeInfo)
type_named name [] place = None
type_named name (ty ∷ types) place = if bytes_eq ty.name name then Some (place, ty) else type_named name types (place + 1)

-- the place of the entry point of a name, the first having this one
unfoldable pub entry_named : List ℕ → List EntryInfo → ℕ → Option ℕ
entry_named name [] place = None
entry_named name (entry ∷ entries) place = if bytes_eq entry.name name then Some place else entry_named name entries (place + 1)

-- the entry point that a change asks for; the default one, which is the first, where it asks for none
abbrev pub entry_asked : Option (List ℕ) → List EntryInfo → Option ℕ
entry_asked None entries = Some 0
entry_asked (Some name) entries = entry_named name entries 0

-- ---- insertions; whether the world has begun is given

abbrev pub values_step : ℕ → ℕ → Option (List Value) → Result Step Code
values_step ty entry None = Err BadValue
values_step ty entry (Some values) = Ok (step.Insert (record { 0 = ty }) (record { 0 = entry }) values)

abbrev pub new_step : ℕ → ℕ → List (List ℕ × Kind) → List (List ℕ × Given) → Result Step Code
new_step ty entry fields members = if are_fields fields members then values_step ty entry (values_given fields members) else Err BadFields

abbrev pub insert_step : Bool → Option (ℕ × TypeInfo) → Option ℕ → List (List ℕ × Given) → Result Step Code
insert_step begun None entry members = Err UnknownType
insert_step begun (Some ty) None members = Err UnknownEntry
insert_step begun (Some ty) (Some entry) members =
    if ty.1.reference && begun then Err ReferenceFixed
    else new_step ty.0 entry ty.1.fields members

-- ---- modifications; the fact that has the id, if one has it, is given

abbrev pub sets_step : FactId → Option (List (ℕ × Value)) → Result Step Code
sets_step id None = Err BadValue
sets_step id (Some sets) = Ok (step.Modify id sets)

abbrev pub fields_step : FactId → List (List ℕ × Kind) → List (List ℕ × Given) → Result Step Code
fields_step id fields members = if are_some_fields fields members then sets_step id (sets_given fields members) else Err BadFields

abbrev pub modify_step : Option (ℕ × TypeInfo) → FactId → Option Fact → List (List ℕ × Given) → Result Step Code
modify_step None id fact members = Err UnknownType
modify_step (Some ty) id fact members =
    if ty.1.event then Err EventFixed
    else if ty.1.reference then Err ReferenceFixed
    else if is_of_type ty.0 fact then fields_step id ty.1.fields members
    else Err Absent

-- ---- retractions; whether the fact is there is asked when the step is done

abbrev pub retract_step : Option (ℕ × TypeInfo) → FactId → Result Step Code
retract_step None id = Err UnknownType
retract_step (Some ty) id = if ty.1.reference then Err ReferenceFixed else Ok (step.Retract (record { 0 = ty.0 }) id)

-- ---- promises; whether the moment may be promised is asked when the step is done

abbrev pub promise_step : Option ℕ → ℤ → Result Step Code
promise_step None from = Err UnknownEntry
promise_step (Some entry) from = Ok (step.Promise (record { 0 = entry }) from)

-- the step of a change, given whether the world has begun, and the present facts by their ids
unfoldable pub change_step : Program → Bool → (ℕ → Option Fact) → Change → Result Step Code
change_step p begun present (Insert ty entry fields) = insert_step begun (type_named ty p.types 0) (entry_asked entry p.entries) fields
change_step p begun present (Modify ty id fields) = modify_step (type_named ty p.types 0) id (present id.0) fields
change_step p begun present (Retract ty id) = retract_step (type_named ty p.types 0) id
change_step p begun present (Advance by) = Ok (step.Advance by)
change_step p begun present (At moment) = Ok (step.At moment)
change_step p begun present (Promise entry from) = promise_step (entry_asked entry p.entries) from
change_step p begun present Begin = Ok step.Begin
