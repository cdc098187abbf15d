-- What is answered has no floating-point number.
use Rattle.std.{proofs.Common.{◌≡◌, ◌||◌, ℕ, ℤ, List, [], ◌∷◌, Bool, false, Option, Some, None, drop, refl}, specs.Prelude.{pos, negsuc, slice_get, codes}}
use Rattle.std.specs.{declared.cmp.Ordering.{Ordering, TheVariants.{Less, Equal, Greater}}, Ordering.{nat_cmp, match_ordering}, Cmp.Lexicographic.{slice_cmp}}
use Rattle.{std.proofs.lemmas.Bool.{or_from, or_parts}, fx_base.specs.declared.{fact.Fact.{Fact}, ids.{FactId.{FactId}, RuleId.{RuleId}, TypeId.{TypeId}}}}
use Rattle.fx_base.specs.declared.{kind.Kind.{Kind}, value.Value.{Value, TheVariants.{Int, Bool as Truth, Text as Words}}}
use Rattle.rule_model.specs.declared.program.{EntryInfo.{EntryInfo}, Program.{Program}, TypeInfo.{TypeInfo}}
use Rattle.answer_lines.specs.declared.lines.OutLine.{OutLine, TheVariants.{New, Fire, Fault, Inserted, Modified, Retracted, FiredFor}}
use Rattle.{drl_names.specs.declared.rule_names.RuleNames.{RuleNames}, serde_json.specs.Data.{Data, array, object, Members, no_members, member, put}}
use Rattle.{serde_json.specs.{View.{items_of}, Written.{has_float, items_have_float, members_have_float}}, answer_json.specs.declared.counted.Counted.{Counted}}
use Rattle.answer_json.specs.{Objects.{whole, signed, members_with, object_of}, Facts.{value_data, with_fields, fields_of, type_data, fields_data, fact_data}}
use Rattle.answer_json.specs.Firings.{rule_data, fact_names, result_names, first_name, name_member, bound_fact, bound_result, bound_facts, bound_results}
use Rattle.answer_json.specs.{Firings.{firing_data}, Answers.{id_data, rule_fired, line_data, with_counts, with_floors, counts_data}}

signed_has_none : (z : ℤ) → has_float (signed z) ≡ false
signed_has_none (pos n) = refl
signed_has_none (negsuc n) = refl

value_has_none : (v : Value) → has_float (value_data v) ≡ false
value_has_none (Int z) = signed_has_none z
value_has_none (Truth b) = refl
value_has_none (Words text) = refl

put_has_none : (k : List ℕ) (d : Data) (ms : Members) → has_float d ≡ false → members_have_float ms ≡ false → members_have_float (put k d ms) ≡ false
put_has_none k d no_members h all = or_from _ _ h refl
put_has_none k d (member l e ms) h all = here (slice_cmp nat_cmp k l) (put_has_none k d ms h parts.1)
  where
    parts : (has_float e ≡ false) × (members_have_float ms ≡ false)
    parts = or_parts _ _ all

    here : (o : Ordering) → members_have_float (put k d ms) ≡ false
        → members_have_float (match_ordering o (member k d (member l e ms)) (member l d ms) (member l e (put k d ms))) ≡ false
    here Less next = or_from _ _ h all
    here Equal next = or_from _ _ h parts.1
    here Greater next = or_from _ _ parts.0 next

-- ---- objects

abbrev some_have_float : List (List ℕ × Data) → Bool
some_have_float [] = false
some_have_float (named ∷ more) = has_float named.1 || some_have_float more

members_have_none : (ms : Members) (named : List (List ℕ × Data)) → members_have_float ms ≡ false → some_have_float named ≡ false
    → members_have_float (members_with ms named) ≡ false
members_have_none ms [] h all = h
members_have_none ms (named ∷ more) h all = members_have_none (put named.0 named.1 ms) more (put_has_none named.0 named.1 ms parts.0 h) parts.1
  where
    parts : (has_float named.1 ≡ false) × (some_have_float more ≡ false)
    parts = or_parts _ _ all

pub object_has_none : (named : List (List ℕ × Data)) → some_have_float named ≡ false → has_float (object_of named) ≡ false
object_has_none named all = members_have_none no_members named refl all

-- ---- facts

fields_have_none : (ms : Members) (fields : List (List ℕ × Kind)) (values : List Value) → members_have_float ms ≡ false
    → members_have_float (with_fields ms fields values) ≡ false
fields_have_none ms [] values h = h
fields_have_none ms (field ∷ fields) [] h = h
fields_have_none ms (field ∷ fields) (v ∷ values) h =
    fields_have_none (put field.0 (value_data v) ms) fields values (put_has_none field.0 (value_data v) ms (value_has_none v) h)

fields_data_has_none : (p : Program) (f : Fact) → has_float (fields_data p f) ≡ false
fields_data_has_none p f = fields_have_none no_members (fields_of (slice_get p.types f.ty.0)) f.fields refl

pub fact_has_none : (p : Program) (number : ℕ) (word : List ℕ) (f : Fact) → has_float (fact_data p number word f) ≡ false
unfolding fact_data
fact_has_none p number word f = object_has_none ((codes "fields", fields_data p f) ∷ (codes "line", whole number) ∷ (word, whole f.id.0) ∷ (codes "type", type_data p f.ty) ∷ [])
    (or_from _ _ (fields_data_has_none p f) refl)

-- ---- firings

name_has_none : (name : Option (List ℕ)) → some_have_float (name_member name) ≡ false
name_has_none None = refl
name_has_none (Some name) = refl

bound_fact_has_none : (p : Program) (name : Option (List ℕ)) (f : Fact) → has_float (bound_fact p name f) ≡ false
bound_fact_has_none p name f = object_has_none ((codes "fields", fields_data p f) ∷ (codes "id", whole f.id.0) ∷ (codes "type", type_data p f.ty) ∷ name_member name)
    (or_from _ _ (fields_data_has_none p f) (name_has_none name))

bound_result_has_none : (name : Option (List ℕ)) (v : ℤ) → has_float (bound_result name v) ≡ false
bound_result_has_none name v = object_has_none ((codes "value", signed v) ∷ name_member name) (or_from _ _ (signed_has_none v) (name_has_none name))

bound_facts_have_none : (p : Program) (names : List (Option (List ℕ))) (facts : List Fact) → items_have_float (items_of (bound_facts p names facts)) ≡ false
bound_facts_have_none p names [] = refl
bound_facts_have_none p names (f ∷ facts) = or_from _ _ (bound_fact_has_none p (first_name names) f) (bound_facts_have_none p (drop 1 names) facts)

bound_results_have_none : (names : List (Option (List ℕ))) (values : List ℤ) → items_have_float (items_of (bound_results names values)) ≡ false
bound_results_have_none names [] = refl
bound_results_have_none names (v ∷ values) = or_from _ _ (bound_result_has_none (first_name names) v) (bound_results_have_none (drop 1 names) values)

firing_has_none : (p : Program) (names : Option RuleNames) (number : ℕ) (rule : RuleId) (clock : ℤ) (facts : List Fact) (values : List ℤ)
    → has_float (firing_data p names number rule clock facts values) ≡ false
unfolding firing_data
firing_has_none p names number rule clock facts values =
    object_has_none ((codes "at", signed clock) ∷ (codes "facts", array (items_of (bound_facts p (fact_names names) facts))) ∷ (codes "fire", rule_data p rule)
    ∷ (codes "line", whole number) ∷ (codes "results", array (items_of (bound_results (result_names names) values))) ∷ [])
    (or_from _ _ (signed_has_none clock) (or_from _ _ (bound_facts_have_none p (fact_names names) facts)
    (or_from _ _ (bound_results_have_none (result_names names) values) refl)))

-- ---- lines

id_has_none : (p : Program) (number : ℕ) (word : List ℕ) (id : FactId) (ty : TypeId) → has_float (id_data p number word id ty) ≡ false
unfolding id_data
id_has_none p number word id ty = object_has_none ((codes "line", whole number) ∷ (word, whole id.0) ∷ (codes "type", type_data p ty) ∷ []) refl

rule_has_none : (p : Program) (number : ℕ) (rule : RuleId) → has_float (rule_fired p number rule) ≡ false
unfolding rule_fired
rule_has_none p number rule = object_has_none ((codes "fire", rule_data p rule) ∷ (codes "line", whole number) ∷ []) refl

pub line_has_none : (p : Program) (names : List RuleNames) (number : ℕ) (line : OutLine) → has_float (line_data p names number line) ≡ false
unfolding line_data
line_has_none p names number (Inserted f) = fact_has_none p number _ f
line_has_none p names number (Modified f) = fact_has_none p number _ f
line_has_none p names number (Retracted id ty) = id_has_none p number _ id ty
line_has_none p names number (FiredFor rule clock facts values) = firing_has_none p (slice_get names rule.0) number rule clock facts values
line_has_none p names number (Fault code) = refl
line_has_none p names number (New id ty) = id_has_none p number _ id ty
line_has_none p names number (Fire rule cells) = rule_has_none p number rule

-- ---- counts

counts_have_none : (ms : Members) (types : List TypeInfo) (numbers : List ℕ) → members_have_float ms ≡ false
    → members_have_float (with_counts ms types numbers) ≡ false
counts_have_none ms [] numbers h = h
counts_have_none ms (ty ∷ types) [] h = h
counts_have_none ms (ty ∷ types) (n ∷ numbers) h = counts_have_none (put ty.name (whole n) ms) types numbers (put_has_none ty.name (whole n) ms refl h)

floors_have_none : (ms : Members) (entries : List EntryInfo) (floors : List ℤ) → members_have_float ms ≡ false
    → members_have_float (with_floors ms entries floors) ≡ false
floors_have_none ms [] floors h = h
floors_have_none ms (entry ∷ entries) [] h = h
floors_have_none ms (entry ∷ entries) (z ∷ floors) h =
    floors_have_none (put entry.name (signed z) ms) entries floors (put_has_none entry.name (signed z) ms (signed_has_none z) h)

pub counted_has_none : (p : Program) (number : ℕ) (counted : Counted) → has_float (counts_data p number counted) ≡ false
unfolding counts_data
counted_has_none p number counted =
    object_has_none ((codes "clock", signed counted.clock) ∷ (codes "counts", object (with_counts no_members p.types counted.facts)) ∷ (codes "firings", whole counted.firings)
    ∷ (codes "floors", object (with_floors no_members p.entries counted.floors)) ∷ (codes "line", whole number) ∷ (codes "pending", whole counted.pending) ∷ [])
    (or_from _ _ (signed_has_none counted.clock) (or_from _ _ (counts_have_none no_members p.types counted.facts refl)
    (or_from _ _ (floors_have_none no_members p.entries counted.floors refl) refl)))
