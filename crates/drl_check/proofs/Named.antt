-- Each temporal test of a rule names a fact that an earlier condition binds, where the rule names no unknown type or variable and no
-- value where a fact is needed.
use Rattle.drl_check.proofs.Common.{◌≡◌, ◌<◌, ◌+◌, ◌++◌, ◌∷◌, ◌||◌, ℕ, zero, suc, Bool, true, false, not, List, [], take, slice_get, Option, Some, None}
use Rattle.drl_check.proofs.Common.{is_some, cond, refl, subst, arith, All, list_any, flat_map, bytes_eq, All-nil, All-cons, All-append, All-weaker, CondTree}
use Rattle.drl_check.proofs.Common.{Part, SourceTree, TypeTree, Condition, TimeTest, bindings, NameEarlier, place_of_name, type_tree_named, field_names}
use Rattle.drl_check.proofs.Common.{Meaning, of_fact, of_field, of_result, Sight, seen_fact, seen_field, seen_in, seen_of, seen_result, Place, begin, behind}
use Rattle.drl_check.proofs.Common.{is_bound_by, fact_meant, time_test, time_tests_in, condition_meant, is_type_unknown, has_unknown_type, part_unseen}
use Rattle.drl_check.proofs.Common.{source_unseen, test_unseen, has_unknown_variable, is_value, part_misfits, source_misfits, argument_misfits, test_misfits}
use Rattle.drl_check.proofs.Common.{has_wrong_kind}
use Rattle.drl_grammar.specs.declared.condition.CondTree.TheVariants as tree
use Rattle.drl_grammar.specs.declared.condition.Part.TheVariants as part
use Rattle.temporal_ops.specs.declared.edge.OpEdge.{OpEdge}
use Rattle.rule_model.specs.declared.condition.Condition.TheVariants as condition
use Rattle.{rule_model.specs.Rows.{pattern_of}, drl_scope.specs.Sight.{meaning_of}, drl_compile.specs.{Operators.{operator_of}, Programs.{conditions_meant}}}
use Rattle.{drl_typing.specs.Uses.{any_condition}, fx_base.proofs.Tests.{or_first_false, or_second_false}}

-- ---- a fact that a variable means is bound

abbrev IsBound : ℕ → Meaning → Type 0
IsBound facts (of_fact fact t) = fact < facts
IsBound facts (of_field fact field k) = Unit {0}
IsBound facts (of_result result) = Unit {0}

abbrev AllBound : ℕ → Sight → Type 0
AllBound facts [] = Unit {0}
AllBound facts (x ∷ sight) = IsBound facts x.1 × AllBound facts sight

still_bound : (facts : ℕ) (m : Meaning) → IsBound facts m → IsBound (facts + 1) m
still_bound facts (of_fact fact t) h = omega (arith, h)
still_bound facts (of_field fact field k) h = tt
still_bound facts (of_result result) h = tt

all_still_bound : (facts : ℕ) (sight : Sight) → AllBound facts sight → AllBound (facts + 1) sight
all_still_bound facts [] h = tt
all_still_bound facts (x ∷ sight) h = (still_bound facts x.1 h.0, all_still_bound facts sight h.1)

both_bound : (facts : ℕ) (front back : Sight) → AllBound facts front → AllBound facts back → AllBound facts (front ++ back)
both_bound facts [] back h k = k
both_bound facts (x ∷ front) back h k = (h.0, both_bound facts front back h.1 k)

first_bound : (facts : ℕ) (sight : Sight) (name : List ℕ) (m : Meaning) → AllBound facts sight → meaning_of sight name ≡ Some m → IsBound facts m
unfolding meaning_of
first_bound facts [] name m h e = absurd cc
first_bound facts (x ∷ sight) name m h e = by (bytes_eq x.0 name) e (first_bound facts sight name m h.1)
  where
    by : (b : Bool) → cond b (Some x.1) (meaning_of sight name) ≡ Some m → (meaning_of sight name ≡ Some m → IsBound facts m) → IsBound facts m
    by true e k = let same : x.1 ≡ m = cc in subst (IsBound facts) same h.0
    by false e k = k e

field_bound : (fact : ℕ) (t : TypeTree) (v : List ℕ) (place : Option ℕ) → AllBound (fact + 1) (seen_field fact t v place)
field_bound fact t v None = tt
field_bound fact t v (Some k) = (tt, tt)

part_bound : (fact : ℕ) (t : TypeTree) (p : Part) → AllBound (fact + 1) (seen_in fact t p)
part_bound fact t (part.Bind v f) = field_bound fact t v (place_of_name (field_names t) f)
part_bound fact t (part.Temporal op params other) = tt
part_bound fact t (part.AnyOf groups) = tt

parts_bound : (fact : ℕ) (t : TypeTree) (parts : List Part) → AllBound (fact + 1) (flat_map (seen_in fact t) parts)
parts_bound fact t [] = tt
parts_bound fact t (p ∷ parts) = both_bound (fact + 1) (seen_in fact t p) (flat_map (seen_in fact t) parts) (part_bound fact t p) (parts_bound fact t parts)

fact_bound : (fact : ℕ) (t : TypeTree) (var : Option (List ℕ)) → AllBound (fact + 1) (seen_fact fact t var)
fact_bound fact t None = tt
fact_bound fact t (Some v) = (omega arith, tt)

source_bound : (fact : ℕ) (s : SourceTree) (o : Option TypeTree) → AllBound (fact + 1) (seen_of fact s o)
source_bound fact s None = tt
source_bound fact s (Some t) = both_bound (fact + 1) (seen_fact fact t s.var) (flat_map (seen_in fact t) s.parts) (fact_bound fact t s.var) (parts_bound fact t s.parts)

result_bound : (facts result : ℕ) (var : Option (List ℕ)) → AllBound facts (seen_result result var)
result_bound facts result None = tt
result_bound facts result (Some v) = (tt, tt)

-- ---- the tests of a pattern

abbrev Names : ℕ → TimeTest → Type 0
Names facts test = test.fact < facts

fact_named : (facts : ℕ) (m : Option Meaning) → not (is_some m) ≡ false → is_value m ≡ false → ((meant : Meaning) → m ≡ Some meant → IsBound facts meant) → fact_meant m < facts
fact_named facts None e f h = absurd (let n : true ≡ false = e in cc)
fact_named facts (Some (of_fact fact t)) e f h = let less = h (of_fact fact t) refl in omega (arith, less)
fact_named facts (Some (of_field fact field k)) e f h = absurd (let n : true ≡ false = f in cc)
fact_named facts (Some (of_result result)) e f h = absurd (let n : true ≡ false = f in cc)

test_named : (facts fact : ℕ) (op : Option (List OpEdge)) → fact < facts → All (Names facts) (time_test fact op)
test_named facts fact None h = All-nil (Names facts)
test_named facts fact (Some op) h = All-cons (Names facts) (record { op = op; fact = fact }) [] h (All-nil (Names facts))

part_named : (facts : ℕ) (t : TypeTree) (sight : Sight) (p : Part) → AllBound facts sight → part_unseen sight p ≡ false → part_misfits t sight p ≡ false → All (Names facts) (time_tests_in sight p)
part_named facts t sight (part.Bind v f) h e k = All-nil (Names facts)
part_named facts t sight (part.Temporal word params other) h e k =
    test_named facts (fact_meant (meaning_of sight other)) (operator_of word params)
    (fact_named facts (meaning_of sight other) e k (λ m is. first_bound facts sight other m h is))
part_named facts t sight (part.AnyOf groups) h e k = All-nil (Names facts)

parts_named : (facts : ℕ) (t : TypeTree) (sight : Sight) (parts : List Part) → AllBound facts sight → list_any (part_unseen sight) parts ≡ false → list_any (part_misfits t sight) parts ≡ false
    → All (Names facts) (flat_map (time_tests_in sight) parts)
parts_named facts t sight [] h e k = All-nil (Names facts)
parts_named facts t sight (p ∷ parts) h e k =
    All-append (Names facts) (time_tests_in sight p) (flat_map (time_tests_in sight) parts)
    (part_named facts t sight p h (or_first_false (part_unseen sight p) (list_any (part_unseen sight) parts) e) (or_first_false (part_misfits t sight p) (list_any (part_misfits t sight) parts) k))
    (parts_named facts t sight parts h (or_second_false (part_unseen sight p) (list_any (part_unseen sight) parts) e) (or_second_false (part_misfits t sight p) (list_any (part_misfits t sight) parts) k))

source_named : (facts : ℕ) (o : Option TypeTree) (sight : Sight) (s : SourceTree) → AllBound facts sight → not (is_some o) ≡ false → source_unseen sight s ≡ false → source_misfits o sight s ≡ false
    → All (Names facts) (flat_map (time_tests_in sight) s.parts)
source_named facts None sight s h known e k = absurd (let n : true ≡ false = known in cc)
source_named facts (Some t) sight s h known e k = parts_named facts t sight s.parts h e k

-- ---- from condition to condition

module _ (types : List TypeTree) (entries : List (List ℕ)) where
  abbrev Agrees : Place → Type 0
  Agrees place = AllBound place.facts place.sight

  agrees_behind : (place : Place) (c : CondTree) → Agrees place → Agrees (behind types place c)
  agrees_behind place (tree.Plain s) h =
      both_bound (place.facts + 1) place.sight (seen_of place.facts s (type_tree_named types s.ty)) (all_still_bound place.facts place.sight h) (source_bound place.facts s (type_tree_named types s.ty))
  agrees_behind place (tree.Negated s) h = h
  agrees_behind place (tree.Existing s) h = h
  agrees_behind place (tree.Folded result s kind arg tests) h =
      both_bound place.facts place.sight (seen_result place.results result) h (result_bound place.facts place.results result)

  condition_named : (place : Place) (c : CondTree) → Agrees place → is_type_unknown types c ≡ false → has_unknown_variable place c ≡ false → has_wrong_kind types place c ≡ false
      → All (Names place.facts) (pattern_of (condition_meant types entries place c)).times
  condition_named place (tree.Plain s) h u e k = source_named place.facts (type_tree_named types s.ty) place.sight s h u e k
  condition_named place (tree.Negated s) h u e k = source_named place.facts (type_tree_named types s.ty) place.sight s h u e k
  condition_named place (tree.Existing s) h u e k = source_named place.facts (type_tree_named types s.ty) place.sight s h u e k
  condition_named place (tree.Folded result s kind arg tests) h u e k =
      let unseen = source_unseen place.sight s in
      let misfits = source_misfits (type_tree_named types s.ty) place.sight s in
      let argument = argument_misfits (type_tree_named types s.ty) s kind arg in
      source_named place.facts (type_tree_named types s.ty) place.sight s h u
      (or_first_false unseen (not (is_bound_by s arg)) (or_first_false (unseen || not (is_bound_by s arg)) (list_any (test_unseen place.sight) tests) e))
      (or_first_false misfits argument (or_first_false (misfits || argument) (list_any (test_misfits place.sight) tests) k))

  bound_behind : (place : Place) (c : CondTree) → (behind types place c).facts ≡ place.facts + bindings (condition_meant types entries place c ∷ [])
  bound_behind place (tree.Plain s) = omega arith
  bound_behind place (tree.Negated s) = omega arith
  bound_behind place (tree.Existing s) = omega arith
  bound_behind place (tree.Folded result s kind arg tests) = omega arith

  one_more : (c : Condition) (cs : List Condition) → bindings (c ∷ cs) ≡ bindings (c ∷ []) + bindings cs
  one_more (condition.Plain p) cs = omega arith
  one_more (condition.Negated p) cs = omega arith
  one_more (condition.Existing p) cs = omega arith
  one_more (condition.Folded a) cs = omega arith

  enough_named : (a b : ℕ) (tests : List TimeTest) → a ≡ b → All (Names a) tests → All (Names b) tests
  enough_named a b tests e h = All-weaker (Names a) (Names b) (λ test less. subst (λ (n : ℕ). test.fact < n) e less) tests h

  named_from : (place : Place) (cs : List CondTree) → Agrees place → has_unknown_type types cs ≡ false → any_condition has_unknown_variable types place cs ≡ false
      → any_condition (has_wrong_kind types) types place cs ≡ false → (k : ℕ) (c : Condition) → slice_get (conditions_meant types entries place cs) k ≡ Some c
      → All (Names (place.facts + bindings (take k (conditions_meant types entries place cs)))) (pattern_of c).times
  unfolding any_condition conditions_meant
  named_from place [] h u e m k c at = absurd cc
  named_from place (first ∷ cs) h u e m zero c at =
      let same : condition_meant types entries place first ≡ c = cc in
      subst (λ (d : Condition). All (Names (place.facts + 0)) (pattern_of d).times) same
      (enough_named place.facts (place.facts + 0) (pattern_of (condition_meant types entries place first)).times (omega arith)
      (condition_named place first h (or_first_false (is_type_unknown types first) (has_unknown_type types cs) u)
      (or_first_false (has_unknown_variable place first) (any_condition has_unknown_variable types (behind types place first) cs) e)
      (or_first_false (has_wrong_kind types place first) (any_condition (has_wrong_kind types) types (behind types place first) cs) m)))
  named_from place (first ∷ cs) h u e m (suc k) c at =
      let made = condition_meant types entries place first in
      let rest = take k (conditions_meant types entries (behind types place first) cs) in
      let sum : (behind types place first).facts + bindings rest ≡ place.facts + bindings (made ∷ rest) = omega (arith, bound_behind place first, one_more made rest) in
      enough_named ((behind types place first).facts + bindings rest) (place.facts + bindings (made ∷ rest)) (pattern_of c).times sum
      (named_from (behind types place first) cs (agrees_behind place first h) (or_second_false (is_type_unknown types first) (has_unknown_type types cs) u)
      (or_second_false (has_unknown_variable place first) (any_condition has_unknown_variable types (behind types place first) cs) e)
      (or_second_false (has_wrong_kind types place first) (any_condition (has_wrong_kind types) types (behind types place first) cs) m) k c at)

  pub rule_named : (cs : List CondTree) → has_unknown_type types cs ≡ false → any_condition has_unknown_variable types begin cs ≡ false
      → any_condition (has_wrong_kind types) types begin cs ≡ false → NameEarlier (conditions_meant types entries begin cs)
  rule_named cs u e m k c at =
      enough_named (0 + bindings (take k (conditions_meant types entries begin cs))) (bindings (take k (conditions_meant types entries begin cs))) (pattern_of c).times (omega arith)
      (named_from begin cs tt u e m k c at)
