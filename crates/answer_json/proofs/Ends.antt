-- Where no value is left, the names behind put nothing.
use Rattle.{std.proofs.Common.{◌≡◌, ℕ, ℤ, List, [], ◌∷◌, length, arith, refl}, fx_base.specs.declared.{kind.Kind.{Kind}, value.Value.{Value}}}
use Rattle.{rule_model.specs.declared.program.{EntryInfo.{EntryInfo}, TypeInfo.{TypeInfo}}, serde_json.specs.Data.{Members}}
use Rattle.answer_json.specs.{Facts.{with_fields}, Answers.{with_counts, with_floors}}

no_value : (ms : Members) (fields : List (List ℕ × Kind)) → with_fields ms fields [] ≡ ms
no_value ms [] = refl
no_value ms (field ∷ fields) = refl

pub no_value_next : (ms : Members) (field : List ℕ × Kind) (fields : List (List ℕ × Kind)) (values : List Value) → length values ≡ 0
    → with_fields ms fields values ≡ with_fields ms (field ∷ fields) values
no_value_next ms field fields [] none = no_value ms fields
no_value_next ms field fields (v ∷ values) none = absurd (omega (arith, none))

no_count : (ms : Members) (types : List TypeInfo) → with_counts ms types [] ≡ ms
no_count ms [] = refl
no_count ms (ty ∷ types) = refl

pub no_count_next : (ms : Members) (ty : TypeInfo) (types : List TypeInfo) (numbers : List ℕ) → length numbers ≡ 0
    → with_counts ms types numbers ≡ with_counts ms (ty ∷ types) numbers
no_count_next ms ty types [] none = no_count ms types
no_count_next ms ty types (n ∷ numbers) none = absurd (omega (arith, none))

no_floor : (ms : Members) (entries : List EntryInfo) → with_floors ms entries [] ≡ ms
no_floor ms [] = refl
no_floor ms (entry ∷ entries) = refl

pub no_floor_next : (ms : Members) (entry : EntryInfo) (entries : List EntryInfo) (floors : List ℤ) → length floors ≡ 0
    → with_floors ms entries floors ≡ with_floors ms (entry ∷ entries) floors
no_floor_next ms entry entries [] none = no_floor ms entries
no_floor_next ms entry entries (z ∷ floors) none = absurd (omega (arith, none))
