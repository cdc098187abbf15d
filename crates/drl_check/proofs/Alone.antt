-- Whether a rule can match asks of a program for its types alone.
use Rattle.drl_check.proofs.Common.{◌≡◌, ◌++◌, ◌∷◌, ℕ, zero, suc, not, List, [], map, slice_get, Option, Some, None, option_map, refl, sym, ap, ◌∙◌, flat_map}
use Rattle.drl_check.proofs.Common.{slice_get-map, CondTree, Body, Item, TypeTree, Condition, Program, TimeTest, is_event_type, is_point_type, net_edge}
use Rattle.drl_check.proofs.Common.{test_edges, condition_edges, edges_of_conditions, types_of, rules_of, entry_names, Place, begin, behind, observed_names}
use Rattle.drl_check.proofs.Common.{type_info, condition_meant, program_of, types_alone, never_matches, never_matches_alone}
use Rattle.drl_grammar.specs.declared.condition.CondTree.TheVariants as tree
use Rattle.drl_grammar.specs.declared.file.Body.TheVariants as body
use Rattle.{temporal_net.specs.{declared.edge.NetEdge.{NetEdge}, Potentials.{is_solvable}}, rule_model.specs.declared.program.TypeInfo.{TypeInfo}}
use Rattle.{rule_model.specs.Types.{is_event, is_point}, life_edges.specs.Edges.{place_of}, expiry_infer.specs.Solvable.{can_match}}
use Rattle.drl_compile.specs.Programs.{conditions_meant}

event_by : (observed names : List (List ℕ)) (o : Option TypeTree) → is_event_type (option_map (type_info observed) o) ≡ is_event_type (option_map (type_info names) o)
event_by observed names None = refl
event_by observed names (Some t) = refl

point_by : (observed names : List (List ℕ)) (o : Option TypeTree) → is_point_type (option_map (type_info observed) o) ≡ is_point_type (option_map (type_info names) o)
point_by observed names None = refl
point_by observed names (Some t) = refl

-- the same types with other flags of what is observed
module _ (types : List TypeTree) (observed names : List (List ℕ)) (p q : Program) (of_p : p.types ≡ map (type_info observed) types) (of_q : q.types ≡ map (type_info names) types) where
  same_event : (ty : ℕ) → is_event p ty ≡ is_event q ty
  unfolding is_event
  same_event ty =
      ap (λ (infos : List TypeInfo). is_event_type (slice_get infos ty)) of_p ∙ ap is_event_type (slice_get-map (type_info observed) types ty) ∙ event_by observed names (slice_get types ty)
      ∙ sym (ap is_event_type (slice_get-map (type_info names) types ty)) ∙ sym (ap (λ (infos : List TypeInfo). is_event_type (slice_get infos ty)) of_q)

  same_point : (ty : ℕ) → is_point p ty ≡ is_point q ty
  unfolding is_point
  same_point ty =
      ap (λ (infos : List TypeInfo). is_point_type (slice_get infos ty)) of_p ∙ ap is_point_type (slice_get-map (type_info observed) types ty) ∙ point_by observed names (slice_get types ty)
      ∙ sym (ap is_point_type (slice_get-map (type_info names) types ty)) ∙ sym (ap (λ (infos : List TypeInfo). is_point_type (slice_get infos ty)) of_q)

  module _ (entries others : List (List ℕ)) where
    same_place : (place : Place) (cs : List CondTree) (n : ℕ) → place_of (conditions_meant types entries place cs) n ≡ place_of (conditions_meant types others place cs) n
    unfolding conditions_meant
    same_place place [] n = refl
    same_place place (tree.Plain s ∷ cs) zero = refl
    same_place place (tree.Plain s ∷ cs) (suc n) = ap suc (same_place (behind types place (tree.Plain s)) cs n)
    same_place place (tree.Negated s ∷ cs) n = ap suc (same_place place cs n)
    same_place place (tree.Existing s ∷ cs) n = ap suc (same_place place cs n)
    same_place place (tree.Folded result s kind arg tests ∷ cs) n = ap suc (same_place (behind types place (tree.Folded result s kind arg tests)) cs n)

    module _ (all : List CondTree) where
      abbrev First : List Condition
      First = conditions_meant types entries begin all

      abbrev Second : List Condition
      Second = conditions_meant types others begin all

      same_tests : (k : ℕ) (tests : List TimeTest) → flat_map (test_edges First k) tests ≡ flat_map (test_edges Second k) tests
      same_tests k [] = refl
      same_tests k (test ∷ tests) =
          ap (λ (n : ℕ). map (net_edge k n) test.op ++ flat_map (test_edges First k) tests) (same_place begin all test.fact) ∙ ap (λ (es : List NetEdge). test_edges Second k test ++ es) (same_tests k tests)

      same_condition : (k : ℕ) (place : Place) (c : CondTree) → condition_edges p First [] k (condition_meant types entries place c) ≡ condition_edges q Second [] k (condition_meant types others place c)
      same_condition k place (tree.Plain s) = same_pattern
        where
          same_pattern : condition_edges p First [] k (condition_meant types entries place (tree.Plain s)) ≡ condition_edges q Second [] k (condition_meant types others place (tree.Plain s))
          same_pattern = rw (same_event _, same_point _, same_tests k _) refl
      same_condition k place (tree.Negated s) = refl
      same_condition k place (tree.Existing s) = refl
      same_condition k place (tree.Folded result s kind arg tests) = refl

      same_edges : (k : ℕ) (place : Place) (cs : List CondTree) → edges_of_conditions p First [] k (conditions_meant types entries place cs) ≡ edges_of_conditions q Second [] k (conditions_meant types others place cs)
      unfolding conditions_meant
      same_edges k place [] = refl
      same_edges k place (c ∷ cs) =
          ap (λ (es : List NetEdge). es ++ edges_of_conditions p First [] (suc k) (conditions_meant types entries (behind types place c) cs)) (same_condition k place c)
          ∙ ap (λ (es : List NetEdge). condition_edges q Second [] k (condition_meant types others place c) ++ es) (same_edges (suc k) (behind types place c) cs)

    same_match : (all : List CondTree) → can_match p (conditions_meant types entries begin all) ≡ can_match q (conditions_meant types others begin all)
    unfolding can_match
    same_match all = ap is_solvable (same_edges all 0 begin all)

pub same_alone : (all : List Item) (b : Body) → never_matches_alone (types_alone (types_of all)) (types_of all) b ≡ never_matches all b
same_alone all (body.Rule r) =
    ap not (same_match (types_of all) [] (observed_names (rules_of all)) (types_alone (types_of all)) (program_of (record { items = all })) refl refl [] (entry_names all) r.conditions)
same_alone all (body.Package p) = refl
same_alone all (body.Import p s) = refl
same_alone all (body.Dialect d) = refl
same_alone all (body.Declare t) = refl
same_alone all (body.Entry n l) = refl
