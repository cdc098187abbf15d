-- What a name finds in a list stands in its place.
use Rattle.change_resolve.proofs.Common.{◌≡◌, ◌<◌, ◌+◌, ℕ, suc, Bool, true, false, cond, List, [], ◌∷◌, length, Option, Some, refl, subst, arith, slice_get}
use Rattle.change_resolve.{proofs.Common.{Kind, TypeInfo, bytes_eq}, specs.{Changes.{type_named, entry_named}, Fields.{field_named}}}
use Rattle.rule_model.specs.declared.program.EntryInfo.{EntryInfo}

-- equal options have equal values
pub some_is : {A : Type 0} {x y : A} → Some x ≡ Some y → x ≡ y
some_is e = cc

-- the element of a place, where the list stands behind so many others
abbrev pub StandsAt : {A : Type 0} → List A → ℕ → ℕ → A → Type 0
StandsAt xs before place x = (i : ℕ) × (place ≡ before + i) × (slice_get xs i ≡ Some x)

-- the first element
here : {A : Type 0} (x : A) (xs : List A) (before : ℕ) → StandsAt (x ∷ xs) before before x
here x xs before = (0, omega arith, refl)

-- an element of the rest
there : {A : Type 0} (y : A) (xs : List A) (before place : ℕ) (x : A) → StandsAt xs (before + 1) place x → StandsAt (y ∷ xs) before place x
there y xs before place x at = let e = at.1 in (suc at.0, omega arith, at.2)

-- behind no others the place is that of the list
pub stands : {A : Type 0} (xs : List A) (place : ℕ) (x : A) → StandsAt xs 0 place x → slice_get xs place ≡ Some x
stands xs place x at = let e = at.1 in let same : place ≡ at.0 = omega arith in rw same at.2

-- ---- types

-- at each case of the test of the first name
type_by : (b : Bool) (ty : TypeInfo) (types : List TypeInfo) (before : ℕ) (rest : Option (ℕ × TypeInfo)) (found : ℕ × TypeInfo)
    → (rest ≡ Some found → StandsAt types (before + 1) found.0 found.1)
    → cond b (Some (before, ty)) rest ≡ Some found → StandsAt (ty ∷ types) before found.0 found.1
type_by true ty types before rest found later e =
    subst (λ (f : ℕ × TypeInfo). StandsAt (ty ∷ types) before f.0 f.1) (some_is e) (here ty types before)
type_by false ty types before rest found later e = there ty types before found.0 found.1 (later e)

-- the type that a name finds stands in its place
pub type_stands : (name : List ℕ) (types : List TypeInfo) (before : ℕ) (found : ℕ × TypeInfo) → type_named name types before ≡ Some found
    → StandsAt types before found.0 found.1
unfolding type_named
type_stands name [] before found e = cc
type_stands name (ty ∷ types) before found e =
    type_by (bytes_eq ty.name name) ty types before (type_named name types (before + 1)) found
    (type_stands name types (before + 1) found) e

-- ---- entry points

-- at each case of the test of the first name
entry_by : (b : Bool) (entries : List EntryInfo) (before : ℕ) (rest : Option ℕ) (place : ℕ)
    → (rest ≡ Some place → place < (before + 1) + length entries)
    → cond b (Some before) rest ≡ Some place → place < before + suc (length entries)
entry_by true entries before rest place later e = let same : before ≡ place = some_is e in omega arith
entry_by false entries before rest place later e = let below = later e in omega arith

-- the entry point that a name finds is one of the list
pub entry_within : (name : List ℕ) (entries : List EntryInfo) (before place : ℕ) → entry_named name entries before ≡ Some place
    → place < before + length entries
unfolding entry_named
entry_within name [] before place e = cc
entry_within name (entry ∷ entries) before place e =
    entry_by (bytes_eq entry.name name) entries before (entry_named name entries (before + 1)) place
    (entry_within name entries (before + 1) place) e

-- ---- fields

-- the field of a place, which has this kind
abbrev pub FieldAt : List (List ℕ × Kind) → ℕ → ℕ × Kind → Type 0
FieldAt fields before found = (field : List ℕ × Kind) × StandsAt fields before found.0 field × (field.1 ≡ found.1)

-- at each case of the test of the first name
field_by : (b : Bool) (field : List ℕ × Kind) (fields : List (List ℕ × Kind)) (before : ℕ) (rest : Option (ℕ × Kind)) (found : ℕ × Kind)
    → (rest ≡ Some found → FieldAt fields (before + 1) found)
    → cond b (Some (before, field.1)) rest ≡ Some found → FieldAt (field ∷ fields) before found
field_by true field fields before rest found later e =
    subst (λ (f : ℕ × Kind). FieldAt (field ∷ fields) before f) (some_is e) (field, here field fields before, refl)
field_by false field fields before rest found later e =
    let at = later e in (at.0, there field fields before found.0 at.0 at.1, at.2)

-- the field that a name finds stands in its place, and has its kind
pub field_stands : (name : List ℕ) (fields : List (List ℕ × Kind)) (before : ℕ) (found : ℕ × Kind) → field_named name fields before ≡ Some found
    → FieldAt fields before found
unfolding field_named
field_stands name [] before found e = cc
field_stands name (field ∷ fields) before found e =
    field_by (bytes_eq field.0 name) field fields before (field_named name fields (before + 1)) found
    (field_stands name fields (before + 1) found) e
