-- Facts as values in JSON.
use Rattle.std.specs.Prelude.{ℕ, List, [], ◌∷◌, Option, Some, None, slice_get, codes}
use Rattle.fx_base.specs.declared.{fact.Fact.{Fact}, ids.TypeId.{TypeId}, kind.Kind.{Kind}, value.Value.{Value, TheVariants.{Int, Bool as Truth}}}
use Rattle.fx_base.specs.declared.value.Value.TheVariants.{Text as Words}
use Rattle.rule_model.specs.declared.program.{Program.{Program}, TypeInfo.{TypeInfo}}
use Rattle.serde_json.specs.Data.{Data, boolean, string, object, Members, no_members, put}
use Rattle.answer_json.specs.Objects.{whole, signed, object_of}

-- of a field
abbrev pub value_data : Value → Data
value_data (Int n) = signed n
value_data (Truth b) = boolean b
value_data (Words text) = string text

-- values under the names of their fields
abbrev pub with_fields : Members → List (List ℕ × Kind) → List Value → Members
with_fields members [] values = members
with_fields members (field ∷ fields) [] = members
with_fields members (field ∷ fields) (v ∷ values) = with_fields (put field.0 (value_data v) members) fields values

abbrev pub fields_of : Option TypeInfo → List (List ℕ × Kind)
fields_of None = []
fields_of (Some ty) = ty.fields

abbrev pub type_name : Option TypeInfo → List ℕ
type_name None = []
type_name (Some ty) = ty.name

-- a type, by its name
abbrev pub type_data : Program → TypeId → Data
type_data p ty = string (type_name (slice_get p.types ty.0))

-- the values of a fact under the names of its fields
abbrev pub fields_data : Program → Fact → Data
fields_data p f = object (with_fields no_members (fields_of (slice_get p.types f.ty.0)) f.fields)

-- {"fields":{..},"line":n,WORD:id,"type":T}: what a fact has come to, or that it is kept, as a word says
unfoldable pub fact_data : Program → ℕ → List ℕ → Fact → Data
fact_data p number word f = object_of (
    (codes "fields", fields_data p f)
    ∷ (codes "line", whole number)
    ∷ (word, whole f.id.0)
    ∷ (codes "type", type_data p f.ty)
    ∷ [])
