-- The values of the steps that changes ask for have the declared kinds.
use Rattle.change_resolve.proofs.Common.{◌≡◌, ◌≤◌, ◌<◌, ◌==◌, ◌&&◌, ℕ, ℤ, true, false, cond, List, [], ◌∷◌, length, nat_le, Option, Some, None, option_map}
use Rattle.change_resolve.proofs.Common.{Result, Ok, Err, refl, subst, lt-ltb, arith, slice_get, Kind, TypeInfo, type_named, entry_asked, values_step, new_step}
use Rattle.change_resolve.proofs.Common.{insert_step, sets_step, modify_step, retract_step, promise_step, are_fields, are_some_fields, given_under, value_given}
use Rattle.change_resolve.proofs.Common.{field_value, field_named, set_for, list_all, option_and_then, FactId, Value, EventFixed, ReferenceFixed, Absent}
use Rattle.change_resolve.proofs.{Common.{BadFields, Given}, Places.{some_is, stands, type_stands, entry_within, FieldAt, field_stands}}
use Rattle.{change_resolve.specs.{Changes.{change_step}, Fields.{values_given, sets_given}}, std.proofs.Common.{Bool as Truth}}
use Rattle.{std.proofs.lemmas.Bool.Decides.{Decides-eqb}, fx_base.specs.declared.fact.Fact.{Fact}, rule_world.specs.Kinds.{has_kind, have_kinds, set_fits}}
use Rattle.{rule_world.specs.{Kinds.{step_fits}, declared.code.Code.{Code}}, rule_model.specs.declared.{program.Program.{Program}, step.Step.{Step}}}
use Rattle.script_read.specs.declared.asked.Change.{Change, TheVariants.{Insert, Modify, Retract, Advance, At, Promise, Begin}}
use Rattle.fx_base.specs.declared.kind.Kind.TheVariants as kind
use Rattle.rule_model.specs.declared.step.Step.TheVariants as step
use Rattle.fx_base.specs.declared.value.Value.TheVariants as value
use Rattle.script_read.specs.declared.given.Given.TheVariants as given

-- ---- values

-- the kind of a value is that of an equal one
of_kind : (k : Kind) (made v : Value) → Some made ≡ Some v → has_kind k made ≡ true → has_kind k v ≡ true
of_kind k made v e is = subst (λ (u : Value). has_kind k u ≡ true) (some_is e) is

-- at each case of the test of the length
text_by : (b : Truth) (bytes : List ℕ) (v : Value) → cond b (Some (value.Text bytes)) None ≡ Some v → has_kind kind.Text v ≡ true
text_by true bytes v e = of_kind kind.Text (value.Text bytes) v e refl
text_by false bytes v e = cc

-- a value that is given to a field has the field's kind
value_has_kind : (k : Kind) (g : Given) (v : Value) → value_given k g ≡ Some v → has_kind k v ≡ true
value_has_kind kind.Int (given.Int n) v e = of_kind kind.Int (value.Int n) v e refl
value_has_kind kind.Int (given.Bool b) v e = cc
value_has_kind kind.Int (given.Text t) v e = cc
value_has_kind kind.Int given.Other v e = cc
value_has_kind kind.Bool (given.Int n) v e = cc
value_has_kind kind.Bool (given.Bool b) v e = of_kind kind.Bool (value.Bool b) v e refl
value_has_kind kind.Bool (given.Text t) v e = cc
value_has_kind kind.Bool given.Other v e = cc
value_has_kind kind.Text (given.Int n) v e = cc
value_has_kind kind.Text (given.Bool b) v e = cc
value_has_kind kind.Text (given.Text t) v e = text_by (nat_le (length t) 4096) t v e
value_has_kind kind.Text given.Other v e = cc

-- ---- the values of an insertion

-- at each case of what is given under the name
given_has_kind : (k : Kind) (g : Option Given) (v : Value) → option_and_then (value_given k) g ≡ Some v → has_kind k v ≡ true
given_has_kind k None v e = cc
given_has_kind k (Some g) v e = value_has_kind k g v e

-- at each case of the first value and of the others
one_more : (field : List ℕ × Kind) (fields : List (List ℕ × Kind)) (first : Option Value) (rest : Option (List Value)) (vs : List Value)
    → ((v : Value) → first ≡ Some v → has_kind field.1 v ≡ true)
    → ((vs : List Value) → rest ≡ Some vs → have_kinds fields vs ≡ true)
    → option_and_then (λ v. option_map (λ vs. v ∷ vs) rest) first ≡ Some vs → have_kinds (field ∷ fields) vs ≡ true
unfolding have_kinds
one_more field fields None rest vs one others e = cc
one_more field fields (Some v) None vs one others e = cc
one_more field fields (Some v) (Some ws) vs one others e =
    subst (λ (us : List Value). have_kinds (field ∷ fields) us ≡ true) (some_is e) (rw (one v refl, others ws refl) refl)

-- the values that are given have the kinds of the fields
values_have_kinds : (fields : List (List ℕ × Kind)) (members : List (List ℕ × Given)) (vs : List Value) → values_given fields members ≡ Some vs
    → have_kinds fields vs ≡ true
unfolding values_given have_kinds
values_have_kinds [] members vs e = subst (λ (us : List Value). have_kinds [] us ≡ true) (some_is e) refl
values_have_kinds (field ∷ fields) members vs e =
    one_more field fields (field_value field members) (values_given fields members) vs
    (given_has_kind field.1 (given_under field.0 members)) (values_have_kinds fields members) e

-- ---- the sets of a modification

-- at each case of the value
set_of_value : (fields : List (List ℕ × Kind)) (found : ℕ × Kind) (v : Option Value) (set : ℕ × Value) → FieldAt fields 0 found
    → ((u : Value) → v ≡ Some u → has_kind found.1 u ≡ true)
    → option_map (λ (u : Value). (found.0, u)) v ≡ Some set → set_fits fields set ≡ true
set_of_value fields found None set at fits e = cc
set_of_value fields found (Some v) set at fits e =
    subst (λ (s : ℕ × Value). set_fits fields s ≡ true) (some_is e)
    (rw (stands fields found.0 at.0 at.1, at.2, fits v refl) refl)

-- at each case of the field that the name finds
set_of_field : (fields : List (List ℕ × Kind)) (name : List ℕ) (g : Given) (found : Option (ℕ × Kind)) (set : ℕ × Value)
    → field_named name fields 0 ≡ found → set_for found g ≡ Some set → set_fits fields set ≡ true
set_of_field fields name g None set is e = cc
set_of_field fields name g (Some found) set is e =
    set_of_value fields found (value_given found.1 g) set (field_stands name fields 0 found is) (value_has_kind found.1 g) e

-- at each case of the first set and of the others
one_more_set : (fields : List (List ℕ × Kind)) (first : Option (ℕ × Value)) (rest : Option (List (ℕ × Value))) (sets : List (ℕ × Value))
    → ((set : ℕ × Value) → first ≡ Some set → set_fits fields set ≡ true)
    → ((sets : List (ℕ × Value)) → rest ≡ Some sets → list_all (set_fits fields) sets ≡ true)
    → option_and_then (λ set. option_map (λ sets. set ∷ sets) rest) first ≡ Some sets → list_all (set_fits fields) sets ≡ true
one_more_set fields None rest sets one others e = cc
one_more_set fields (Some set) None sets one others e = cc
one_more_set fields (Some set) (Some more) sets one others e =
    subst (λ (s : List (ℕ × Value)). list_all (set_fits fields) s ≡ true) (some_is e) (rw (one set refl, others more refl) refl)

-- the sets that are given fit the fields
sets_fit_fields : (fields : List (List ℕ × Kind)) (members : List (List ℕ × Given)) (sets : List (ℕ × Value)) → sets_given fields members ≡ Some sets
    → list_all (set_fits fields) sets ≡ true
unfolding sets_given
sets_fit_fields fields [] sets e = subst (λ (s : List (ℕ × Value)). list_all (set_fits fields) s ≡ true) (some_is e) refl
sets_fit_fields fields (member ∷ members) sets e =
    one_more_set fields (set_for (field_named member.0 fields 0) member.1) (sets_given fields members) sets
    (λ set. set_of_field fields member.0 member.1 (field_named member.0 fields 0) set refl) (sets_fit_fields fields members) e

-- ---- steps

-- a step without a fault
abbrev pub asked : Step → Result Step Code
asked s = Ok s

-- equal results have equal steps
ok_is : {s t : Step} → asked s ≡ asked t → s ≡ t
ok_is e = cc

-- the type of a name stands in its place
abbrev pub IsFound : List TypeInfo → Option (ℕ × TypeInfo) → Type 0
IsFound types ty = (found : ℕ × TypeInfo) → ty ≡ Some found → slice_get types found.0 ≡ Some found.1

-- a name finds so
named : (name : List ℕ) (types : List TypeInfo) → IsFound types (type_named name types 0)
named name types found e = stands types found.0 found.1 (type_stands name types 0 found e)

-- an entry point that is asked for is one of the program
entry_is : (name : Option (List ℕ)) (p : Program) (entry : ℕ) → 1 ≤ length p.entries → entry_asked name p.entries ≡ Some entry
    → entry < length p.entries
entry_is None p entry some e = let default : 0 ≡ entry = some_is e in omega arith
entry_is (Some name) p entry some e = let below = entry_within name p.entries 0 entry e in omega arith

-- the insertion at each case of its values
insertion_fits : (p : Program) (present : ℕ → Option Fact) (ty : ℕ × TypeInfo) (entry : ℕ) (values : Option (List Value)) (s : Step)
    → slice_get p.types ty.0 ≡ Some ty.1 → entry < length p.entries
    → ((vs : List Value) → values ≡ Some vs → have_kinds ty.1.fields vs ≡ true)
    → values_step ty.0 entry values ≡ Ok s → step_fits p present s ≡ true
unfolding step_fits
insertion_fits p present ty entry None s is below kinds e = cc
insertion_fits p present ty entry (Some vs) s is below kinds e =
    subst (λ (t : Step). step_fits p present t ≡ true) (ok_is e) (rw (is, kinds vs refl, lt-ltb entry (length p.entries) below) refl)

-- at each case of the test of the members
insert_tested : (b : Truth) (front : Result Step Code) (s : Step) (p : Program) (present : ℕ → Option Fact)
    → (front ≡ Ok s → step_fits p present s ≡ true) → cond b front (Err BadFields) ≡ Ok s → step_fits p present s ≡ true
insert_tested true front s p present fits e = fits e
insert_tested false front s p present fits e = cc

-- at each case of the test of the type
not_fixed : (b : Truth) (front : Result Step Code) (s : Step) → cond b (Err ReferenceFixed) front ≡ Ok s → front ≡ Ok s
not_fixed true front s e = cc
not_fixed false front s e = e

-- at each case of the type and the entry point
insert_fits : (p : Program) (begun : Truth) (present : ℕ → Option Fact) (ty : Option (ℕ × TypeInfo)) (entry : Option ℕ) (members : List (List ℕ × Given)) (s : Step)
    → IsFound p.types ty → ((place : ℕ) → entry ≡ Some place → place < length p.entries)
    → insert_step begun ty entry members ≡ Ok s → step_fits p present s ≡ true
insert_fits p begun present None entry members s is below e = cc
insert_fits p begun present (Some ty) None members s is below e = cc
insert_fits p begun present (Some ty) (Some entry) members s is below e =
    insert_tested (are_fields ty.1.fields members) (values_step ty.0 entry (values_given ty.1.fields members)) s p present
    (insertion_fits p present ty entry (values_given ty.1.fields members) s (is ty refl) (below entry refl) (values_have_kinds ty.1.fields members))
    (not_fixed (ty.1.reference && begun) (new_step ty.0 entry ty.1.fields members) s e)

-- the modification at each case of its sets
modification_fits : (p : Program) (present : ℕ → Option Fact) (ty : ℕ × TypeInfo) (id : FactId) (sets : Option (List (ℕ × Value))) (f : Fact) (s : Step)
    → slice_get p.types ty.0 ≡ Some ty.1 → present id.0 ≡ Some f → ty.1.event ≡ false → f.ty.0 ≡ ty.0
    → ((some : List (ℕ × Value)) → sets ≡ Some some → list_all (set_fits ty.1.fields) some ≡ true)
    → sets_step id sets ≡ Ok s → step_fits p present s ≡ true
unfolding step_fits
modification_fits p present ty id None f s is there plain of_type fits e = cc
modification_fits p present ty id (Some sets) f s is there plain of_type fits e =
    subst (λ (t : Step). step_fits p present t ≡ true) (ok_is e) (rw (there, of_type, is, plain) (fits sets refl))

-- at each case of the four tests
modify_tested : (event reference of_type some : Truth) (front : Result Step Code) (s : Step) (p : Program) (present : ℕ → Option Fact)
    → (event ≡ false → of_type ≡ true → front ≡ Ok s → step_fits p present s ≡ true)
    → cond event (Err EventFixed) (cond reference (Err ReferenceFixed) (cond of_type (cond some front (Err BadFields)) (Err Absent))) ≡ Ok s
    → step_fits p present s ≡ true
modify_tested true reference of_type some front s p present fits e = cc
modify_tested false true of_type some front s p present fits e = cc
modify_tested false false true true front s p present fits e = fits refl refl e
modify_tested false false true false front s p present fits e = cc
modify_tested false false false some front s p present fits e = cc

-- at each case of the type and of the fact with the id
modify_fits : (p : Program) (present : ℕ → Option Fact) (ty : Option (ℕ × TypeInfo)) (id : FactId) (fact : Option Fact) (members : List (List ℕ × Given)) (s : Step)
    → IsFound p.types ty → present id.0 ≡ fact → modify_step ty id fact members ≡ Ok s → step_fits p present s ≡ true
modify_fits p present None id fact members s is there e = cc
modify_fits p present (Some ty) id None members s is there e =
    modify_tested ty.1.event ty.1.reference false (are_some_fields ty.1.fields members) (sets_step id (sets_given ty.1.fields members)) s p present
    (λ plain of_type. cc) e
modify_fits p present (Some ty) id (Some f) members s is there e =
    modify_tested ty.1.event ty.1.reference (f.ty.0 == ty.0) (are_some_fields ty.1.fields members) (sets_step id (sets_given ty.1.fields members)) s p present
    (λ plain of_type. modification_fits p present ty id (sets_given ty.1.fields members) f s (is ty refl) there plain
    ((Decides-eqb f.ty.0 ty.0).0 of_type) (sets_fit_fields ty.1.fields members)) e

-- a retraction has no values
retract_fits : (p : Program) (present : ℕ → Option Fact) (ty : Option (ℕ × TypeInfo)) (id : FactId) (s : Step) → retract_step ty id ≡ Ok s → step_fits p present s ≡ true
unfolding step_fits
retract_fits p present None id s e = cc
retract_fits p present (Some ty) id s e =
    subst (λ (t : Step). step_fits p present t ≡ true) (ok_is (not_fixed ty.1.reference (Ok (step.Retract (record { 0 = ty.0 }) id)) s e)) refl

-- nor has a promise
promise_fits : (p : Program) (present : ℕ → Option Fact) (entry : Option ℕ) (from : ℤ) (s : Step) → promise_step entry from ≡ Ok s → step_fits p present s ≡ true
unfolding step_fits
promise_fits p present None from s e = cc
promise_fits p present (Some entry) from s e = subst (λ (t : Step). step_fits p present t ≡ true) (ok_is e) refl

-- at each change
pub asked_fits : (p : Program) (begun : Truth) (present : ℕ → Option Fact) (change : Change) (s : Step) → 1 ≤ length p.entries → change_step p begun present change ≡ Ok s
    → step_fits p present s ≡ true
unfolding change_step step_fits
asked_fits p begun present (Insert ty entry members) s some e =
    insert_fits p begun present (type_named ty p.types 0) (entry_asked entry p.entries) members s (named ty p.types)
    (λ place. entry_is entry p place some) e
asked_fits p begun present (Modify ty id members) s some e =
    modify_fits p present (type_named ty p.types 0) id (present id.0) members s (named ty p.types) refl e
asked_fits p begun present (Retract ty id) s some e = retract_fits p present (type_named ty p.types 0) id s e
asked_fits p begun present (Advance by) s some e = subst (λ (t : Step). step_fits p present t ≡ true) (ok_is e) refl
asked_fits p begun present (At moment) s some e = subst (λ (t : Step). step_fits p present t ≡ true) (ok_is e) refl
asked_fits p begun present (Promise entry from) s some e = promise_fits p present (entry_asked entry p.entries) from s e
asked_fits p begun present Begin s some e = subst (λ (t : Step). step_fits p present t ≡ true) (ok_is e) refl
