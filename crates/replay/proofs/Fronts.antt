-- Of a file with more rules than a file may have an item of its front fails a check first, one up to the 257th rule: what stands behind tells nothing but
-- the types that are declared and those that are watched.
use Rattle.replay.proofs.Common.{◌≡◌, ◌≤◌, ◌<◌, ◌+◌, ◌++◌, ◌∷◌, ◌&&◌, ◌||◌, ℕ, Bool, true, false, List, [], length, Option, Some, None, refl, sym, ap, ◌∙◌}
use Rattle.{replay.proofs.Common.{arith, length-append, list_any, Failure, Program, nat_lt, if◌then◌else◌}, std.specs.Prelude.{drop, not}}
use Rattle.{std.proofs.lemmas.Bool.Decides.{nat_tests}, drl_expr.specs.Words.{is_among}, drl_grammar.specs.declared.action.ActTree.{ActTree}}
use Rattle.drl_grammar.specs.declared.action.ActTree.TheVariants as action
use Rattle.drl_grammar.specs.declared.file.Body.{Body}
use Rattle.drl_grammar.specs.declared.file.Body.TheVariants as body
use Rattle.{drl_grammar.specs.declared.file.{Item.{Item}, TypeTree.{TypeTree}}, drl_scope.specs.{Annotations.{is_tree_of_events}, Declarations.{types_of}}}
use Rattle.drl_scope.specs.{Declarations.{rules_of, type_names, rule_names, rule_in}, EntryPoints.{declared_entries, entry_names}, Observed.{is_event_among}}
use Rattle.drl_scope.specs.{Observed.{watched_names}, Sight.{Sight, Meaning, of_fact, of_field, of_result, meaning_of, sight_of_actions}}
use Rattle.{drl_compile.specs.Programs.{types_alone}, drl_limits.specs.Limits.{has_few_entries, rule_within}}
use Rattle.drl_check.specs.{declared.fault.CheckCode.{CheckCode, TheVariants.{TwiceDeclared, LimitPassed}}, Checks.{codes_in_order, drops_observed, fails}}
use Rattle.drl_check.specs.{Checks.{failure_at, failure_from, first_code}, Events.{is_observed_meant, retracts_observed}, Failing.{first_failing}}
use Rattle.drl_check.proofs.Failures.{failing_is, rules_next}

-- ---- what is watched under the same names

same_any : {X : Type 0} (p q : X → Bool) → ((x : X) → p x ≡ q x) → (xs : List X) → list_any p xs ≡ list_any q xs
same_any p q same [] = refl
same_any p q same (x ∷ xs) = ap (λ b. b || list_any p xs) (same x) ∙ ap (λ b. q x || b) (same_any p q same xs)

module _ (w v : List (List ℕ)) (same : (name : List ℕ) → is_among w name ≡ is_among v name) where
  same_meant : (m : Option Meaning) → is_observed_meant (is_event_among w) m ≡ is_observed_meant (is_event_among v) m
  same_meant None = refl
  same_meant (Some (of_fact fact t)) = ap (λ b. is_tree_of_events t && b) (same t.name)
  same_meant (Some (of_field fact field k)) = refl
  same_meant (Some (of_result result)) = refl

  same_retracts : (sight : Sight) (a : ActTree) → retracts_observed (is_event_among w) sight a ≡ retracts_observed (is_event_among v) sight a
  same_retracts sight (action.Retract name) = same_meant (meaning_of sight name)
  same_retracts sight (action.Insert ty args) = refl
  same_retracts sight (action.Modify name sets) = refl

  same_drops : (types : List TypeTree) (b : Body) → drops_observed (is_event_among w) types b ≡ drops_observed (is_event_among v) types b
  same_drops types (body.Rule r) =
      let sight = sight_of_actions types r.conditions in
      same_any (retracts_observed (is_event_among w) sight) (retracts_observed (is_event_among v) sight) (same_retracts sight) r.actions
  same_drops types (body.Package path) = refl
  same_drops types (body.Import path star) = refl
  same_drops types (body.Dialect text) = refl
  same_drops types (body.Declare t) = refl
  same_drops types (body.Entry name lateness) = refl

  same_failing : (alone : Program) (declared : List TypeTree) (types entries rules known : List (List ℕ)) (b : Body)
      → first_failing alone declared w types entries rules known b ≡ first_failing alone declared v types entries rules known b
  same_failing alone declared types entries rules known b = rw (same_drops declared b) refl

-- ---- the first failure

-- the same failure, of an item with a number up to this one
abbrev pub Both : ℕ → Option Failure → Option Failure → Type 0
Both most o p = (f : Failure) × (o ≡ Some f) × (p ≡ Some f) × (f.number ≤ most)

second_passed : (c d : CheckCode) (codes : List CheckCode) (all before : List Item) (b : Body) → first_code (c ∷ (d ∷ codes)) all before b ≡ None → fails d all before b ≡ false
second_passed c d codes all before b e = by (fails c all before b) (fails d all before b) e
  where
    by : (x y : Bool) → (if x then Some c else if y then Some d else first_code codes all before b) ≡ None → y ≡ false
    by true y e = absurd cc
    by false true e = absurd cc
    by false false e = refl

first_of_three : (n : ℕ) (b c : Bool) → not (nat_lt n 256 && b && c) ≡ false → n < 256
first_of_three n true true e = Prim.grind (arith, nat_tests)
first_of_three n true false e = Prim.grind (arith, nat_tests)
first_of_three n false c e = Prim.grind (arith, nat_tests)

-- behind an item that passes all checks there are at most 256 rules
few_stay : (all before : List Item) (b : Body) → first_code codes_in_order all before b ≡ None → length (rules_of before) ≤ 256 → length (rules_of before) + length (rule_in b) ≤ 256
few_stay all before (body.Rule r) passed few =
    let less : length (rules_of before) < 256 =
    first_of_three (length (rules_of before)) (has_few_entries (entry_names before) (body.Rule r)) (rule_within r) (second_passed TwiceDeclared LimitPassed (drop 2 codes_in_order) all before (body.Rule r) passed) in
    omega (arith, less)
few_stay all before (body.Package path) passed few = omega (arith, few)
few_stay all before (body.Import path star) passed few = omega (arith, few)
few_stay all before (body.Dialect text) passed few = omega (arith, few)
few_stay all before (body.Declare t) passed few = omega (arith, few)
few_stay all before (body.Entry name lateness) passed few = omega (arith, few)

module _ (all whole : List Item) (types : types_of all ≡ types_of whole) (watched : (name : List ℕ) → is_among (watched_names all) name ≡ is_among (watched_names whole) name) where
  same_code : (before : List Item) (b : Body) → first_code codes_in_order all before b ≡ first_code codes_in_order whole before b
  same_code before b =
      let by : List Item → List TypeTree → List (List ℕ) → Option CheckCode =
      λ items declared names. first_failing (types_alone declared) declared names (type_names (types_of before)) (declared_entries before) (rule_names (rules_of before)) (entry_names before) b in
      sym (failing_is all before (types_alone (types_of all)) (types_of all) (watched_names all) (type_names (types_of before)) (declared_entries before) (rule_names (rules_of before)) (entry_names before) b refl refl refl refl refl refl refl)
      ∙ ap (λ declared. by all declared (watched_names all)) types
      ∙ same_failing (watched_names all) (watched_names whole) watched (types_alone (types_of whole)) (types_of whole) (type_names (types_of before)) (declared_entries before) (rule_names (rules_of before)) (entry_names before) b
      ∙ failing_is whole before (types_alone (types_of whole)) (types_of whole) (watched_names whole) (type_names (types_of before)) (declared_entries before) (rule_names (rules_of before)) (entry_names before) b refl refl refl refl refl refl refl

  module _ (rest other : List Item) where
    one_more : (before items : List Item) (item : Item) (o : Option CheckCode) → first_code codes_in_order all before item.body ≡ o
        → (o ≡ None → Both (length (before ++ item ∷ []) + length items) (failure_from all (before ++ item ∷ []) (items ++ rest)) (failure_from whole (before ++ item ∷ []) (items ++ other)))
        → Both (length before + length (item ∷ items)) (failure_from all before (item ∷ (items ++ rest))) (failure_from whole before (item ∷ (items ++ other)))
    unfolding failure_from
    one_more before items item (Some code) e later = (
      record { number = length before + 1; line = item.line; code = code },
      ap (λ o. failure_at (length before + 1) item.line o (failure_from all (before ++ item ∷ []) (items ++ rest))) e,
      ap (λ o. failure_at (length before + 1) item.line o (failure_from whole (before ++ item ∷ []) (items ++ other))) (sym (same_code before item.body) ∙ e),
      omega arith,
    )
    one_more before items item None e later =
        let found = later refl in
        let n = length-append before (item ∷ []) in (
          found.0,
          ap (λ o. failure_at (length before + 1) item.line o (failure_from all (before ++ item ∷ []) (items ++ rest))) e ∙ found.1,
          ap (λ o. failure_at (length before + 1) item.line o (failure_from whole (before ++ item ∷ []) (items ++ other))) (sym (same_code before item.body) ∙ e) ∙ found.2,
          omega (arith, found.3, n),
        )

    alike : (before items : List Item) → length (rules_of before) ≤ 256 → 256 < length (rules_of before) + length (rules_of items)
        → Both (length before + length items) (failure_from all before (items ++ rest)) (failure_from whole before (items ++ other))
    alike before [] few many = absurd (omega (arith, few, many))
    alike before (item ∷ items) few many =
        let more : length (rules_of (before ++ item ∷ [])) ≡ length (rules_of before) + length (rule_in item.body) =
        ap length (rules_next before item) ∙ length-append (rules_of before) (rule_in item.body) in
        let parts = length-append (rule_in item.body) (rules_of items) in
        one_more before items item (first_code codes_in_order all before item.body) refl
        (λ passed. alike (before ++ item ∷ []) items (omega (arith, more, few_stay all before item.body passed few)) (omega (arith, more, parts, many)))

-- two files that begin with the same items, of which more than 256 are rules, declare the same types and watch the same, have the same first failure, one of these items
pub first_alike : (front rest other : List Item) → types_of (front ++ rest) ≡ types_of (front ++ other)
    → ((name : List ℕ) → is_among (watched_names (front ++ rest)) name ≡ is_among (watched_names (front ++ other)) name) → 256 < length (rules_of front)
    → Both (length front) (failure_from (front ++ rest) [] (front ++ rest)) (failure_from (front ++ other) [] (front ++ other))
first_alike front rest other types watched many =
    let found = alike (front ++ rest) (front ++ other) types watched rest other [] front (omega arith) (omega (arith, many)) in
    (found.0, found.1, found.2, omega (arith, found.3))
