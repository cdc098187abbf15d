-- How deep nests what is answered: five values one in another at most, which any reader reads.
use Rattle.std.{proofs.Common.{◌≤◌, ℕ, ℤ, suc, List, [], ◌∷◌, Option, Some, None, drop, arith}, specs.Prelude.{max, slice_get, codes}}
use Rattle.std.specs.{declared.cmp.Ordering.{Ordering, TheVariants.{Less, Equal, Greater}}, Ordering.{nat_cmp, match_ordering}, Cmp.Lexicographic.{slice_cmp}}
use Rattle.fx_base.specs.declared.{fact.Fact.{Fact}, ids.{FactId.{FactId}, RuleId.{RuleId}, TypeId.{TypeId}}, kind.Kind.{Kind}, value.Value.{Value}}
use Rattle.{fx_base.specs.declared.value.Value.TheVariants.{Int, Bool as Truth, Text as Words}, rule_model.specs.declared.program.EntryInfo.{EntryInfo}}
use Rattle.{rule_model.specs.declared.program.{Program.{Program}, TypeInfo.{TypeInfo}}, rule_world.specs.CodeNames.{code_name}}
use Rattle.answer_lines.specs.declared.lines.OutLine.{OutLine, TheVariants.{New, Fire, Fault, Inserted, Modified, Retracted, FiredFor}}
use Rattle.{drl_names.specs.declared.rule_names.RuleNames.{RuleNames}, serde_json.specs.Data.{Data, array, object, string, Members, no_members, member, put}}
use Rattle.serde_json.specs.{Data.{depth, items_depth, members_depth}, Read.{max_depth}, View.{items_of}}
use Rattle.answer_json.specs.{declared.counted.Counted.{Counted}, Objects.{whole, signed, members_with, object_of}, Facts.{value_data, with_fields, fields_of}}
use Rattle.answer_json.specs.{Facts.{type_data, fields_data, fact_data}, Firings.{rule_data, fact_names, result_names, first_name, name_member, bound_fact}}
use Rattle.answer_json.specs.{Firings.{bound_result, bound_facts, bound_results, firing_data}, Answers.{id_data, rule_fired, line_data, with_counts}}
use Rattle.answer_json.specs.Answers.{with_floors, counts_data}

both_within : (n a b : ℕ) → a ≤ n → b ≤ n → max a b ≤ n
both_within n a b h k = omega (arith, h, k)

left_within : (n a b : ℕ) → max a b ≤ n → a ≤ n
left_within n a b h = omega (arith, h)

right_within : (n a b : ℕ) → max a b ≤ n → b ≤ n
right_within n a b h = omega (arith, h)

behind_flat : (n a : ℕ) → a ≤ n → max 0 a ≤ n
behind_flat n a h = omega (arith, h)

put_within : (n : ℕ) (k : List ℕ) (d : Data) (ms : Members) → depth d ≤ n → members_depth ms ≤ n → members_depth (put k d ms) ≤ n
put_within n k d no_members h all = both_within n (depth d) 0 h all
put_within n k d (member l e ms) h all = here (slice_cmp nat_cmp k l) (put_within n k d ms h rest)
  where
    first : depth e ≤ n
    first = left_within n (depth e) (members_depth ms) all

    rest : members_depth ms ≤ n
    rest = right_within n (depth e) (members_depth ms) all

    here : (o : Ordering) → members_depth (put k d ms) ≤ n
        → members_depth (match_ordering o (member k d (member l e ms)) (member l d ms) (member l e (put k d ms))) ≤ n
    here Less next = both_within n (depth d) (max (depth e) (members_depth ms)) h all
    here Equal next = both_within n (depth d) (members_depth ms) h rest
    here Greater next = both_within n (depth e) (members_depth (put k d ms)) first next

-- ---- objects

abbrev deepest : List (List ℕ × Data) → ℕ
deepest [] = 0
deepest (named ∷ more) = max (depth named.1) (deepest more)

members_within : (n : ℕ) (ms : Members) (named : List (List ℕ × Data)) → members_depth ms ≤ n → deepest named ≤ n → members_depth (members_with ms named) ≤ n
members_within n ms [] h all = h
members_within n ms (named ∷ more) h all =
    members_within n (put named.0 named.1 ms) more (put_within n named.0 named.1 ms (left_within n (depth named.1) (deepest more) all) h)
    (right_within n (depth named.1) (deepest more) all)

deeper : (n a : ℕ) → a ≤ n → suc a ≤ suc n
deeper n a h = omega (arith, h)

none_within : (n : ℕ) → 0 ≤ n
none_within n = omega arith

object_within : (n : ℕ) (named : List (List ℕ × Data)) → deepest named ≤ n → depth (object_of named) ≤ suc n
object_within n named all = deeper n (members_depth (members_with no_members named)) (members_within n no_members named (none_within n) all)

-- ---- facts

value_is_flat : (v : Value) → depth (value_data v) ≤ 0
value_is_flat (Int z) = none_within 0
value_is_flat (Truth b) = none_within 0
value_is_flat (Words text) = none_within 0

fields_are_flat : (ms : Members) (fields : List (List ℕ × Kind)) (values : List Value) → members_depth ms ≤ 0 → members_depth (with_fields ms fields values) ≤ 0
fields_are_flat ms [] values h = h
fields_are_flat ms (field ∷ fields) [] h = h
fields_are_flat ms (field ∷ fields) (v ∷ values) h =
    fields_are_flat (put field.0 (value_data v) ms) fields values (put_within 0 field.0 (value_data v) ms (value_is_flat v) h)

fields_within : (p : Program) (f : Fact) → depth (fields_data p f) ≤ 1
fields_within p f = deeper 0 (members_depth (with_fields no_members (fields_of (slice_get p.types f.ty.0)) f.fields))
    (fields_are_flat no_members (fields_of (slice_get p.types f.ty.0)) f.fields (none_within 0))

fact_within : (p : Program) (number : ℕ) (word : List ℕ) (f : Fact) → depth (fact_data p number word f) ≤ 2
unfolding fact_data
fact_within p number word f = object_within 1 ((codes "fields", fields_data p f) ∷ (codes "line", whole number) ∷ (word, whole f.id.0) ∷ (codes "type", type_data p f.ty) ∷ [])
    (both_within 1 (depth (fields_data p f)) 0 (fields_within p f) (none_within 1))

-- ---- firings

name_is_flat : (name : Option (List ℕ)) → deepest (name_member name) ≤ 1
name_is_flat None = none_within 1
name_is_flat (Some name) = none_within 1

bound_fact_within : (p : Program) (name : Option (List ℕ)) (f : Fact) → depth (bound_fact p name f) ≤ 2
bound_fact_within p name f =
    object_within 1 ((codes "fields", fields_data p f) ∷ (codes "id", whole f.id.0) ∷ (codes "type", type_data p f.ty) ∷ name_member name)
    (both_within 1 (depth (fields_data p f)) (max 0 (max 0 (deepest (name_member name)))) (fields_within p f)
    (behind_flat 1 (max 0 (deepest (name_member name))) (behind_flat 1 (deepest (name_member name)) (name_is_flat name))))

bound_result_within : (name : Option (List ℕ)) (v : ℤ) → depth (bound_result name v) ≤ 2
bound_result_within name v = object_within 1 ((codes "value", signed v) ∷ name_member name) (behind_flat 1 (deepest (name_member name)) (name_is_flat name))

bound_facts_within : (p : Program) (names : List (Option (List ℕ))) (facts : List Fact) → items_depth (items_of (bound_facts p names facts)) ≤ 2
bound_facts_within p names [] = none_within 2
bound_facts_within p names (f ∷ facts) =
    both_within 2 (depth (bound_fact p (first_name names) f)) (items_depth (items_of (bound_facts p (drop 1 names) facts)))
    (bound_fact_within p (first_name names) f) (bound_facts_within p (drop 1 names) facts)

bound_results_within : (names : List (Option (List ℕ))) (values : List ℤ) → items_depth (items_of (bound_results names values)) ≤ 2
bound_results_within names [] = none_within 2
bound_results_within names (v ∷ values) =
    both_within 2 (depth (bound_result (first_name names) v)) (items_depth (items_of (bound_results (drop 1 names) values)))
    (bound_result_within (first_name names) v) (bound_results_within (drop 1 names) values)

arrays_within : (a b : ℕ) → a ≤ 2 → b ≤ 2 → max 0 (max (suc a) (max 0 (max 0 (max (suc b) 0)))) ≤ 3
arrays_within a b h k = omega (arith, h, k)

firing_within : (p : Program) (names : Option RuleNames) (number : ℕ) (rule : RuleId) (clock : ℤ) (facts : List Fact) (values : List ℤ)
    → depth (firing_data p names number rule clock facts values) ≤ 4
unfolding firing_data
firing_within p names number rule clock facts values =
    object_within 3 ((codes "at", signed clock) ∷ (codes "facts", array (items_of (bound_facts p (fact_names names) facts))) ∷ (codes "fire", rule_data p rule)
    ∷ (codes "line", whole number) ∷ (codes "results", array (items_of (bound_results (result_names names) values))) ∷ [])
    (arrays_within (items_depth (items_of (bound_facts p (fact_names names) facts))) (items_depth (items_of (bound_results (result_names names) values)))
    (bound_facts_within p (fact_names names) facts) (bound_results_within (result_names names) values))

-- ---- lines

shallow : (n : ℕ) → n ≤ 4 → n ≤ max_depth
shallow n h = omega (arith, h)

two_is_shallow : (n : ℕ) → n ≤ 2 → n ≤ 4
two_is_shallow n h = omega (arith, h)

pub fact_is_shallow : (p : Program) (number : ℕ) (word : List ℕ) (f : Fact) → depth (fact_data p number word f) ≤ max_depth
fact_is_shallow p number word f = shallow (depth (fact_data p number word f)) (two_is_shallow (depth (fact_data p number word f)) (fact_within p number word f))

simple : (named : List (List ℕ × Data)) → deepest named ≤ 1 → depth (object_of named) ≤ max_depth
simple named h = shallow (depth (object_of named)) (two_is_shallow (depth (object_of named)) (object_within 1 named h))

id_is_shallow : (p : Program) (number : ℕ) (word : List ℕ) (id : FactId) (ty : TypeId) → depth (id_data p number word id ty) ≤ max_depth
unfolding id_data
id_is_shallow p number word id ty = simple ((codes "line", whole number) ∷ (word, whole id.0) ∷ (codes "type", type_data p ty) ∷ []) (none_within 1)

rule_is_shallow : (p : Program) (number : ℕ) (rule : RuleId) → depth (rule_fired p number rule) ≤ max_depth
unfolding rule_fired
rule_is_shallow p number rule = simple ((codes "fire", rule_data p rule) ∷ (codes "line", whole number) ∷ []) (none_within 1)

pub line_is_shallow : (p : Program) (names : List RuleNames) (number : ℕ) (line : OutLine) → depth (line_data p names number line) ≤ max_depth
unfolding line_data
line_is_shallow p names number (Inserted f) = fact_is_shallow p number _ f
line_is_shallow p names number (Modified f) = fact_is_shallow p number _ f
line_is_shallow p names number (Retracted id ty) = id_is_shallow p number _ id ty
line_is_shallow p names number (FiredFor rule clock facts values) = shallow (depth (firing_data p (slice_get names rule.0) number rule clock facts values)) (firing_within p (slice_get names rule.0) number rule clock facts values)
line_is_shallow p names number (Fault code) = simple ((codes "fault", string (code_name code)) ∷ (codes "line", whole number) ∷ []) (none_within 1)
line_is_shallow p names number (New id ty) = id_is_shallow p number _ id ty
line_is_shallow p names number (Fire rule cells) = rule_is_shallow p number rule

-- ---- counts

counts_are_flat : (ms : Members) (types : List TypeInfo) (numbers : List ℕ) → members_depth ms ≤ 0 → members_depth (with_counts ms types numbers) ≤ 0
counts_are_flat ms [] numbers h = h
counts_are_flat ms (ty ∷ types) [] h = h
counts_are_flat ms (ty ∷ types) (n ∷ numbers) h = counts_are_flat (put ty.name (whole n) ms) types numbers (put_within 0 ty.name (whole n) ms (none_within 0) h)

floors_are_flat : (ms : Members) (entries : List EntryInfo) (floors : List ℤ) → members_depth ms ≤ 0 → members_depth (with_floors ms entries floors) ≤ 0
floors_are_flat ms [] floors h = h
floors_are_flat ms (entry ∷ entries) [] h = h
floors_are_flat ms (entry ∷ entries) (z ∷ floors) h =
    floors_are_flat (put entry.name (signed z) ms) entries floors (put_within 0 entry.name (signed z) ms (none_within 0) h)

objects_within : (a b : ℕ) → a ≤ 0 → b ≤ 0 → max 0 (max (suc a) (max 0 (max (suc b) 0))) ≤ 1
objects_within a b h k = omega (arith, h, k)

pub counted_is_shallow : (p : Program) (number : ℕ) (counted : Counted) → depth (counts_data p number counted) ≤ max_depth
unfolding counts_data
counted_is_shallow p number counted = simple ((codes "clock", signed counted.clock) ∷ (codes "counts", object (with_counts no_members p.types counted.facts)) ∷ (codes "firings", whole counted.firings)
    ∷ (codes "floors", object (with_floors no_members p.entries counted.floors)) ∷ (codes "line", whole number) ∷ (codes "pending", whole counted.pending) ∷ [])
    (objects_within (members_depth (with_counts no_members p.types counted.facts)) (members_depth (with_floors no_members p.entries counted.floors))
    (counts_are_flat no_members p.types counted.facts (none_within 0)) (floors_are_flat no_members p.entries counted.floors (none_within 0)))
