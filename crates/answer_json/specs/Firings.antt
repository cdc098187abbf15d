-- Firings as values in JSON: the rule, its moment, and what its conditions bound, each with the name of its variable.
use Rattle.std.specs.Prelude.{ℕ, ℤ, List, [], ◌∷◌, drop, Option, Some, None, slice_get, codes}
use Rattle.fx_base.specs.declared.{fact.Fact.{Fact}, ids.RuleId.{RuleId}}
use Rattle.rule_model.specs.declared.program.{Program.{Program}, Rule.{Rule}}
use Rattle.drl_names.specs.declared.rule_names.RuleNames.{RuleNames}
use Rattle.serde_json.specs.{Data.{Data, string, array}, View.{items_of}}
use Rattle.answer_json.specs.{Objects.{whole, signed, object_of}, Facts.{fields_data, type_data}}

abbrev pub rule_name : Option Rule → List ℕ
rule_name None = []
rule_name (Some rule) = rule.name

-- a rule, by its name
abbrev pub rule_data : Program → RuleId → Data
rule_data p rule = string (rule_name (slice_get p.rules rule.0))

-- the names of a rule, where there are some
abbrev pub fact_names : Option RuleNames → List (Option (List ℕ))
fact_names None = []
fact_names (Some names) = names.facts

abbrev pub result_names : Option RuleNames → List (Option (List ℕ))
result_names None = []
result_names (Some names) = names.results

abbrev pub first_name : List (Option (List ℕ)) → Option (List ℕ)
first_name [] = None
first_name (name ∷ names) = name

-- the variable to which a condition is bound, where it has one
abbrev pub name_member : Option (List ℕ) → List (List ℕ × Data)
name_member None = []
name_member (Some name) = (codes "name", string name) ∷ []

-- {"fields":{..},"id":n,"name":V,"type":T}
abbrev pub bound_fact : Program → Option (List ℕ) → Fact → Data
bound_fact p name f = object_of (
    (codes "fields", fields_data p f)
    ∷ (codes "id", whole f.id.0)
    ∷ (codes "type", type_data p f.ty)
    ∷ name_member name)

-- {"name":V,"value":n}
abbrev pub bound_result : Option (List ℕ) → ℤ → Data
bound_result name value = object_of ((codes "value", signed value) ∷ name_member name)

-- facts and results, each with the name in its place, as far as there are some
abbrev pub bound_facts : Program → List (Option (List ℕ)) → List Fact → List Data
bound_facts p names [] = []
bound_facts p names (f ∷ facts) = bound_fact p (first_name names) f ∷ bound_facts p (drop 1 names) facts

abbrev pub bound_results : List (Option (List ℕ)) → List ℤ → List Data
bound_results names [] = []
bound_results names (v ∷ values) = bound_result (first_name names) v ∷ bound_results (drop 1 names) values

-- {"at":clock,"facts":[..],"fire":R,"line":n,"results":[..]}
unfoldable pub firing_data : Program → Option RuleNames → ℕ → RuleId → ℤ → List Fact → List ℤ → Data
firing_data p names number rule clock facts values = object_of (
    (codes "at", signed clock)
    ∷ (codes "facts", array (items_of (bound_facts p (fact_names names) facts)))
    ∷ (codes "fire", rule_data p rule)
    ∷ (codes "line", whole number)
    ∷ (codes "results", array (items_of (bound_results (result_names names) values)))
    ∷ [])
