-- What tests look at, which is the same of a fact under other places.
use Rattle.rule_change.proofs.Common.{◌≡◌, ℕ, ℤ, Bool, List, [], ◌∷◌, map, Option, Some, None, option_map, refl, ◌∙◌, ap, slice_get-map, list_any, list_all}
use Rattle.rule_change.proofs.Common.{option_and_then, slice_get, Fact, Times, Program, bound_of, bounds_of, field_of, side_value, related_given, compare_holds}
use Rattle.rule_change.proofs.Common.{test_holds, tests_hold, time_holds_with, times_hold, results_hold, Tuple, bound_by, moved_fact, fun_ext}
use Rattle.{fx_base.specs.declared.value.Value.TheVariants.{Int}, temporal_ops.specs.declared.edge.OpEdge.{OpEdge}, rule_model.specs.declared.test.Side.{Side}}
use Rattle.rule_model.specs.declared.test.{Side.TheVariants.{Lit, Own, Of, Result}, Compare.{Compare}, Test.{Test}, TimeTest.{TimeTest}}
use Rattle.rule_model.specs.declared.test.ResultTest.{ResultTest}

module _ (p q : Program) where
  -- what was bound, under other places
  abbrev pub moved_tuple : Tuple → Tuple
  moved_tuple t = record { facts = map (moved_fact p q) t.facts; values = t.values }

  field_same : (there : Option Fact) (field : ℕ) → field_of (option_map (moved_fact p q) there) field ≡ field_of there field
  field_same None field = refl
  field_same (Some f) field = refl

  time_same : (edges : List OpEdge) (times : Times) (there : Option Fact) → time_holds_with edges times (option_map (moved_fact p q) there) ≡ time_holds_with edges times there
  time_same edges times None = refl
  time_same edges times (Some f) = refl

  abbrev with_times : List OpEdge → Fact → List OpEdge × Times
  with_times op f = (op, f.times)

  bound_same : (op : List OpEdge) (there : Option Fact) → option_map (with_times op) (option_map (moved_fact p q) there) ≡ option_map (with_times op) there
  bound_same op None = refl
  bound_same op (Some f) = refl

  module _ (t : Tuple) where
    there : (place : ℕ) → slice_get (map (moved_fact p q) t.facts) place ≡ option_map (moved_fact p q) (slice_get t.facts place)
    there place = slice_get-map (moved_fact p q) t.facts place

    side_own : (f : Fact) (side : Side) → side_value (bound_by (moved_tuple t)) (Some (moved_fact p q f)) side ≡ side_value (bound_by t) (Some f) side
    side_own f (Lit v) = refl
    side_own f (Own field) = refl
    side_own f (Of fact field) = ap (λ (o : Option Fact). field_of o field) (there fact) ∙ field_same (slice_get t.facts fact) field
    side_own f (Result place) = refl

    side_none : (side : Side) → side_value (bound_by (moved_tuple t)) None side ≡ side_value (bound_by t) None side
    side_none (Lit v) = refl
    side_none (Own field) = refl
    side_none (Of fact field) = ap (λ (o : Option Fact). field_of o field) (there fact) ∙ field_same (slice_get t.facts fact) field
    side_none (Result place) = refl

    compare_same : (f : Fact) (c : Compare) → compare_holds (bound_by (moved_tuple t)) (moved_fact p q f) c ≡ compare_holds (bound_by t) f c
    compare_same f c = ap (λ (g : Side → Bool). list_any g c.against) (fun_ext (λ side. ap (related_given c.rel (slice_get f.fields c.field)) (side_own f side)))

    choice_same : (f : Fact) (test : Test) → test_holds (bound_by (moved_tuple t)) (moved_fact p q f) test ≡ test_holds (bound_by t) f test
    choice_same f test = ap (λ (g : Compare → Bool). list_any (list_all g) test.choices) (fun_ext (compare_same f))

    pub tests_same : (f : Fact) (tests : List Test) → tests_hold (bound_by (moved_tuple t)) (moved_fact p q f) tests ≡ tests_hold (bound_by t) f tests
    tests_same f tests = ap (λ (g : Test → Bool). list_all g tests) (fun_ext (choice_same f))

    pub times_same : (times : Times) (tests : List TimeTest) → times_hold (bound_by (moved_tuple t)) times tests ≡ times_hold (bound_by t) times tests
    times_same times tests =
        ap (λ (g : TimeTest → Bool). list_all g tests)
        (fun_ext (λ (test : TimeTest). ap (time_holds_with test.op times) (there test.fact) ∙ time_same test.op times (slice_get t.facts test.fact)))

    pub results_same : (v : ℤ) (tests : List ResultTest) → results_hold (bound_by (moved_tuple t)) v tests ≡ results_hold (bound_by t) v tests
    results_same v tests =
        ap (λ (g : ResultTest → Bool). list_all g tests) (fun_ext (λ (test : ResultTest). ap (related_given test.rel (Some (Int v))) (side_none test.against)))

    pub bounds_same : (tests : List TimeTest) → bounds_of (bound_by (moved_tuple t)) tests ≡ bounds_of (bound_by t) tests
    bounds_same [] = refl
    bounds_same (test ∷ tests) =
        ap (λ (rest : Option (List (List OpEdge × Times))). option_and_then (λ b. option_map (λ bs. b ∷ bs) rest) (bound_of (bound_by (moved_tuple t)) test)) (bounds_same tests)
        ∙ ap (λ (b : Option (List OpEdge × Times)). option_and_then (λ b. option_map (λ bs. b ∷ bs) (bounds_of (bound_by t) tests)) b)
        (ap (option_map (with_times test.op)) (there test.fact) ∙ bound_same test.op (slice_get t.facts test.fact))
