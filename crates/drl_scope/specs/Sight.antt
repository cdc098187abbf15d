-- The variables that are in sight at a condition of a rule, and what they mean there.
use Rattle.std.specs.{Prelude.{ℕ, ◌+◌, ◌||◌, Bool, false, List, [], ◌∷◌, ◌++◌, Option, Some, None, if◌then◌else◌}, List.{flat_map, list_any}, Str.{bytes_eq}}
use Rattle.fx_base.specs.declared.kind.Kind.{Kind}
use Rattle.drl_grammar.specs.declared.condition.CondTree.{CondTree}
use Rattle.drl_grammar.specs.declared.condition.CondTree.TheVariants as condition
use Rattle.drl_grammar.specs.declared.condition.{SourceTree.{SourceTree}, Part.{Part}}
use Rattle.drl_grammar.specs.declared.condition.Part.TheVariants as part
use Rattle.drl_grammar.specs.declared.file.TypeTree.{TypeTree}
use Rattle.drl_scope.specs.{Names.{place_of_name}, Declarations.{type_tree_named, field_names, kind_at}}

-- what a variable means: the fact of a positive pattern, by its number and its type, a field of such a fact, by its place, or
-- the result of an accumulate, by its number
pub data Meaning : Type 0 where
  of_fact : (fact : ℕ) → TypeTree → Meaning
  of_field : (fact field : ℕ) → Option Kind → Meaning
  of_result : (result : ℕ) → Meaning

-- variables with their meanings
abbrev pub Sight : Type 0
Sight = List (List ℕ × Meaning)

-- what the first variable of this name means
unfoldable pub meaning_of : Sight → List ℕ → Option Meaning
meaning_of [] name = None
meaning_of (x ∷ sight) name = if bytes_eq x.0 name then Some x.1 else meaning_of sight name

abbrev pub seen_fact : ℕ → TypeTree → Option (List ℕ) → Sight
seen_fact fact t None = []
seen_fact fact t (Some v) = (v, of_fact fact t) ∷ []

abbrev pub seen_field : ℕ → TypeTree → List ℕ → Option ℕ → Sight
seen_field fact t v None = []
seen_field fact t v (Some k) = (v, of_field fact k (kind_at t k)) ∷ []

abbrev pub seen_in : ℕ → TypeTree → Part → Sight
seen_in fact t (part.Bind v f) = seen_field fact t v (place_of_name (field_names t) f)
seen_in fact t (part.Temporal op params other) = []
seen_in fact t (part.AnyOf groups) = []

-- what a positive pattern, whose fact has this number, brings into sight
abbrev pub seen_of : ℕ → SourceTree → Option TypeTree → Sight
seen_of fact s None = []
seen_of fact s (Some t) = seen_fact fact t s.var ++ flat_map (seen_in fact t) s.parts

-- what an accumulate, whose result has this number, brings into sight
abbrev pub seen_result : ℕ → Option (List ℕ) → Sight
seen_result result None = []
seen_result result (Some v) = (v, of_result result) ∷ []

-- what is in sight behind a condition, and the numbers of the next fact and of the next result
pub record Place : Type 0 where
  pub sight : Sight
  pub facts : ℕ
  pub results : ℕ

abbrev pub begin : Place
begin = record { sight = []; facts = 0; results = 0 }

-- What is bound inside not, exists and accumulate is in sight nowhere else; the result of an accumulate is in sight behind it.
-- An accumulate without a variable for its result has a number too.
abbrev pub behind : List TypeTree → Place → CondTree → Place
behind types place (condition.Plain s) =
    record { sight = place.sight ++ seen_of place.facts s (type_tree_named types s.ty); facts = place.facts + 1; results = place.results }
behind types place (condition.Negated s) = place
behind types place (condition.Existing s) = place
behind types place (condition.Folded result s kind arg tests) =
    record { sight = place.sight ++ seen_result place.results result; facts = place.facts; results = place.results + 1 }

-- what is in sight behind all conditions, which is what actions see
unfoldable pub behind_all : List TypeTree → Place → List CondTree → Place
behind_all types place [] = place
behind_all types place (c ∷ cs) = behind_all types (behind types place c) cs

abbrev pub sight_of_actions : List TypeTree → List CondTree → Sight
sight_of_actions types cs = (behind_all types begin cs).sight

-- ---- inside a condition

-- the variable of the pattern's fact, where it has one
abbrev pub is_own : Option (List ℕ) → List ℕ → Bool
is_own None v = false
is_own (Some own) v = bytes_eq own v

-- the variable that a part binds to a field
abbrev pub is_bound_in : List ℕ → Part → Bool
is_bound_in v (part.Bind bound f) = bytes_eq bound v
is_bound_in v (part.Temporal op params other) = false
is_bound_in v (part.AnyOf groups) = false

-- Whether a pattern binds a variable, to its fact or to one of its fields. The argument of an accumulate sees these of its own
-- pattern alone.
abbrev pub is_bound_by : SourceTree → List ℕ → Bool
is_bound_by s v = is_own s.var v || list_any (is_bound_in v) s.parts
