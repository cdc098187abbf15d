-- A type is flagged as observed exactly where a condition of the program observes its place.
use Rattle.drl_compile.proofs.Common.{◌≡◌, ◌≤◌, ◌<◌, ◌+◌, ◌&&◌, ◌||◌, ◌∷◌, ◌==◌, ℕ, zero, suc, min, Bool, true, false, not, List, [], map, length, slice_get}
use Rattle.drl_compile.proofs.Common.{Option, Some, None, is_some, option_map, cond, refl, sym, ap, subst, ◌∙◌, arith, list_any, list_all, flat_map}
use Rattle.drl_compile.proofs.Common.{option_and_then, TypeTree, types_of, rules_of, place_of_name, begin, behind, observed_by, observed_names, type_info}
use Rattle.drl_compile.proofs.Common.{rule_of, length-map, list_any-append, type_names, type_tree_named, is_among, Place, has_type, has_types, OneForEach}
use Rattle.{drl_compile.proofs.Common.{ObservedAreFlagged, has_length, type_place, window_meant, condition_meant}, std.proofs.lemmas.Bool.{eq-eqb, eqb-true}}
use Rattle.std.{proofs.lemmas.{Bool.{not-true}, Option.{slice_get-map, slice_get_within}}, specs.{Str.{bytes_eq}, Cmp.Lexicographic.{bytes_decides}}}
use Rattle.drl_grammar.specs.declared.condition.CondTree.{CondTree}
use Rattle.drl_grammar.specs.declared.condition.CondTree.TheVariants as tree
use Rattle.drl_grammar.specs.declared.condition.WindowTree.{WindowTree}
use Rattle.drl_grammar.specs.declared.condition.WindowTree.TheVariants as window
use Rattle.drl_grammar.specs.declared.file.RuleTree.{RuleTree}
use Rattle.drl_scope.specs.Annotations as annotations
use Rattle.{drl_scope.specs.{EntryPoints.{entry_names}, Names.{are_distinct, place_from}}, rule_model.specs.declared.program.TypeInfo.{TypeInfo}}
use Rattle.rule_model.specs.{Simple.{is_length, observes_type, is_observed_in}, Types.{is_event_type, is_event, is_observed_type, is_observed}}
use Rattle.{drl_compile.specs.Programs.{conditions_meant}, fx_base.proofs.Tests.{and_first, and_second, or_first_false, or_second_false}}

-- ---- one condition for each

pub one_for_each : OneForEach
unfolding conditions_meant
one_for_each types entries place [] = refl
one_for_each types entries place (c ∷ cs) = ap suc (one_for_each types entries (behind types place c) cs)

-- ---- places of names that stand once

abbrev same_name : (a b : List ℕ) → bytes_eq a b ≡ true → a ≡ b
same_name a b e = (bytes_decides a b).0 e

abbrev equal_names : (a b : List ℕ) → a ≡ b → bytes_eq a b ≡ true
equal_names a b e = (bytes_decides a b).1 e

-- a name at a place is among the names
not_there : (names : List (List ℕ)) (name other : List ℕ) (j : ℕ) → is_among names name ≡ false → slice_get names j ≡ Some other → bytes_eq name other ≡ false
not_there [] name other j e h = absurd cc
not_there (first ∷ names) name other zero e h =
    let same : first ≡ other = cc in subst (λ (x : List ℕ). bytes_eq name x ≡ false) same (or_first_false (bytes_eq name first) (is_among names name) e)
not_there (first ∷ names) name other (suc j) e h = not_there names name other j (or_second_false (bytes_eq name first) (is_among names name) e) h

-- the place of a name that stands once is where it stands
placed_where : (i : ℕ) (names : List (List ℕ)) (name : List ℕ) (j : ℕ) → are_distinct names ≡ true → slice_get names j ≡ Some name → place_from i names name ≡ Some (i + j)
unfolding place_from are_distinct
placed_where i [] name j d h = absurd cc
placed_where i (first ∷ names) name zero d h =
    let same : first ≡ name = cc in
    let here : i ≡ i + 0 = omega arith in
    rw (equal_names first name same) (ap Some here)
placed_where i (first ∷ names) name (suc j) d h =
    let apart = not_there names first name j (not-true (is_among names first) (and_first (not (is_among names first)) (are_distinct names) d)) h in
    let there : i + 1 + j ≡ i + suc j = omega arith in
    rw apart (placed_where (i + 1) names name j (and_second (not (is_among names first)) (are_distinct names) d) h ∙ ap Some there)

-- what has a place stands there
stands_there : (i : ℕ) (names : List (List ℕ)) (name : List ℕ) (k : ℕ) → place_from i names name ≡ Some k → (j : ℕ) × (k ≡ i + j) × (slice_get names j ≡ Some name)
unfolding place_from
stands_there i [] name k e = absurd cc
stands_there i (first ∷ names) name k e = by (bytes_eq first name) refl e (stands_there (i + 1) names name k)
  where
    by : (b : Bool) → bytes_eq first name ≡ b → cond b (Some i) (place_from (i + 1) names name) ≡ Some k
        → (place_from (i + 1) names name ≡ Some k → (j : ℕ) × (k ≡ i + 1 + j) × (slice_get names j ≡ Some name))
        → (j : ℕ) × (k ≡ i + j) × (slice_get (first ∷ names) j ≡ Some name)
    by true h e rest =
        let same : i ≡ k = cc in
        (0, omega (arith, same), ap Some (same_name first name h))
    by false h e rest = let found = rest e in (suc found.0, omega (arith, found.1), found.2)

-- ---- types by their names and by their places

module _ (types : List TypeTree) (few : length types ≤ 65536) (once : are_distinct (type_names types) ≡ true) (entries : List (List ℕ)) where
  -- a name that is declared has the place of the type of this name
  same_type_by : (t : TypeTree) (ty : ℕ) (name : List ℕ) (o : Option ℕ) → slice_get types ty ≡ Some t → place_of_name (type_names types) name ≡ o
      → is_some (option_and_then (λ k. slice_get types k) o) ≡ true → bytes_eq t.name name ≡ (type_place o == ty)
  same_type_by t ty name None stood e d = absurd cc
  same_type_by t ty name (Some k) stood e d = by (bytes_eq t.name name) (min k 65535 == ty) refl refl
    where
      names : List (List ℕ)
      names = type_names types

      own : slice_get names ty ≡ Some t.name
      own = slice_get-map (λ (u : TypeTree). u.name) types ty ∙ ap (option_map (λ (u : TypeTree). u.name)) stood

      found : slice_get names k ≡ Some name
      found =
          let there = stands_there 0 names name k e in
          let same : there.0 ≡ k = omega (arith, there.1) in
          subst (λ (j : ℕ). slice_get names j ≡ Some name) same there.2

      less : k < length types
      less = let under = slice_get_within names k name found in omega (arith, under, length-map types (λ (u : TypeTree). u.name))

      whole : min k 65535 ≡ k
      whole = omega (arith, less, few)

      at_own : t.name ≡ name → k ≡ ty
      at_own same =
          let placed = subst (λ (n : List ℕ). place_from 0 names n ≡ Some (0 + ty)) same (placed_where 0 names t.name ty once own) in
          let equal : Some k ≡ Some (0 + ty) = sym e ∙ placed in
          let plain : k ≡ 0 + ty = cc in
          omega (arith, plain)

      own_at : k ≡ ty → t.name ≡ name
      own_at same = let there = subst (λ (j : ℕ). slice_get names j ≡ Some name) same found in let equal : Some t.name ≡ Some name = sym own ∙ there in cc

      by : (p q : Bool) → bytes_eq t.name name ≡ p → (min k 65535 == ty) ≡ q → p ≡ q
      by true true h g = refl
      by false false h g = refl
      by true false h g =
          let equal : (min k 65535 == ty) ≡ true = eq-eqb (min k 65535) ty (whole ∙ at_own (same_name t.name name h)) in
          absurd cc
      by false true h g =
          let equal : bytes_eq t.name name ≡ true = equal_names t.name name (own_at (sym whole ∙ eqb-true (min k 65535) ty g)) in
          absurd cc

  same_type : (t : TypeTree) (ty : ℕ) (name : List ℕ) → slice_get types ty ≡ Some t → is_some (type_tree_named types name) ≡ true
      → bytes_eq t.name name ≡ (type_place (place_of_name (type_names types) name) == ty)
  same_type t ty name stood d = same_type_by t ty name (place_of_name (type_names types) name) stood refl d

  -- ---- conditions

  same_length : (w : Option WindowTree) → is_length (window_meant w) ≡ has_length w
  same_length None = refl
  same_length (Some (window.Time span)) = refl
  same_length (Some (window.Length count)) = refl

  module _ (t : TypeTree) (ty : ℕ) (stood : slice_get types ty ≡ Some t) where
    if_observing : (o p q : Bool) (name : List ℕ) → bytes_eq t.name name ≡ q → p ≡ o → list_any (bytes_eq t.name) (cond o (name ∷ []) []) ≡ (p && q)
    if_observing true true true name e h = rw e refl
    if_observing true true false name e h = rw e refl
    if_observing false false q name e h = refl
    if_observing true false q name e h = absurd cc
    if_observing false true q name e h = absurd cc

    condition_observes : (place : Place) (c : CondTree) → has_type types c ≡ true → list_any (bytes_eq t.name) (observed_by c) ≡ observes_type ty (condition_meant types entries place c)
    condition_observes place (tree.Plain s) d = if_observing (has_length s.window) (is_length (window_meant s.window)) (type_place (place_of_name (type_names types) s.ty) == ty) s.ty (same_type t ty s.ty stood d) (same_length s.window)
    condition_observes place (tree.Negated s) d = if_observing true true (type_place (place_of_name (type_names types) s.ty) == ty) s.ty (same_type t ty s.ty stood d) refl
    condition_observes place (tree.Existing s) d = if_observing true true (type_place (place_of_name (type_names types) s.ty) == ty) s.ty (same_type t ty s.ty stood d) refl
    condition_observes place (tree.Folded result s kind arg tests) d = if_observing true true (type_place (place_of_name (type_names types) s.ty) == ty) s.ty (same_type t ty s.ty stood d) refl

    either : (a b c d : Bool) → a ≡ c → b ≡ d → (a || b) ≡ (c || d)
    either true b true d e h = refl
    either false b false d e h = h
    either true b false d e h = absurd cc
    either false b true d e h = absurd cc

    conditions_observe : (place : Place) (cs : List CondTree) → list_all (has_type types) cs ≡ true → list_any (bytes_eq t.name) (flat_map observed_by cs) ≡ list_any (observes_type ty) (conditions_meant types entries place cs)
    unfolding conditions_meant
    conditions_observe place [] d = refl
    conditions_observe place (c ∷ cs) d =
        let here = has_type types c in
        let rest = list_all (has_type types) cs in
        list_any-append (bytes_eq t.name) (observed_by c) (flat_map observed_by cs)
        ∙ either (list_any (bytes_eq t.name) (observed_by c)) (list_any (bytes_eq t.name) (flat_map observed_by cs)) (observes_type ty (condition_meant types entries place c)) (list_any (observes_type ty) (conditions_meant types entries (behind types place c) cs))
        (condition_observes place c (and_first here rest d)) (conditions_observe (behind types place c) cs (and_second here rest d))

    pub rules_observe : (rules : List RuleTree) → list_all (has_types types) rules ≡ true → is_among (observed_names rules) t.name ≡ is_observed_in (map (rule_of types entries) rules) ty
    rules_observe [] d = refl
    rules_observe (r ∷ rules) d =
        let here = has_types types r in
        let rest = list_all (has_types types) rules in
        list_any-append (bytes_eq t.name) (flat_map observed_by r.conditions) (observed_names rules)
        ∙ either (list_any (bytes_eq t.name) (flat_map observed_by r.conditions)) (is_among (observed_names rules) t.name) (list_any (observes_type ty) (rule_of types entries r).conditions) (is_observed_in (map (rule_of types entries) rules) ty)
        (conditions_observe begin r.conditions (and_first here rest d)) (rules_observe rules (and_second here rest d))

-- ---- the law

flagged_by : (observed : List (List ℕ)) (o : Option TypeTree) (b : Bool) → ((t : TypeTree) → o ≡ Some t → is_among observed t.name ≡ b)
    → is_observed_type (option_map (type_info observed) o) ≡ (is_event_type (option_map (type_info observed) o) && b)
flagged_by observed None b h = refl
flagged_by observed (Some t) b h = ap (λ x. annotations.is_tree_of_events t && x) (h t refl)

pub observed_are_flagged : ObservedAreFlagged
unfolding is_observed is_event
observed_are_flagged file few once declared ty =
    let types = types_of file.items in
    let rules = rules_of file.items in
    let entries = entry_names file.items in
    let observed = observed_names rules in
    let b = is_observed_in (map (rule_of types entries) rules) ty in
    subst (λ (o : Option TypeInfo). is_observed_type o ≡ (is_event_type o && b)) (sym (slice_get-map (type_info observed) types ty))
    (flagged_by observed (slice_get types ty) b (λ t stood. rules_observe types few once entries t ty stood rules declared))
