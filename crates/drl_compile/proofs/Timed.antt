-- The temporal tests of a program have the edges of operators.
use Rattle.drl_compile.proofs.Common.{◌++◌, ◌∷◌, ℕ, List, [], Option, Some, None, IfSome, flat_map, behind, OpEdge, IsOp, operator_of, time_tests_in, Sight}
use Rattle.drl_compile.proofs.Common.{meaning_of, EachHasOperator, fact_meant, time_test}
use Rattle.drl_grammar.specs.declared.condition.CondTree.TheVariants as tree
use Rattle.drl_grammar.specs.declared.condition.Part.{Part}
use Rattle.drl_grammar.specs.declared.condition.Part.TheVariants as part
use Rattle.{rule_model.specs.{declared.test.TimeTest.{TimeTest}, Maturity.{AreOperators}}, drl_compile.specs.Programs.{conditions_meant}}
use Rattle.drl_compile.proofs.Parameters.{operator_is}

both : (xs ys : List TimeTest) → AreOperators xs → AreOperators ys → AreOperators (xs ++ ys)
both [] ys h k = k
both (x ∷ xs) ys h k = (h.0, both xs ys h.1 k)

of_test : (fact : ℕ) (o : Option (List OpEdge)) → IfSome o IsOp → AreOperators (time_test fact o)
of_test fact None h = tt
of_test fact (Some op) h = (h, tt)

of_part : (sight : Sight) (p : Part) → AreOperators (time_tests_in sight p)
of_part sight (part.Bind v f) = tt
of_part sight (part.Temporal word params other) = of_test (fact_meant (meaning_of sight other)) (operator_of word params) (operator_is word params)
of_part sight (part.AnyOf groups) = tt

of_parts : (sight : Sight) (parts : List Part) → AreOperators (flat_map (time_tests_in sight) parts)
of_parts sight [] = tt
of_parts sight (p ∷ parts) = both (time_tests_in sight p) (flat_map (time_tests_in sight) parts) (of_part sight p) (of_parts sight parts)

pub each_has_operator : EachHasOperator
unfolding conditions_meant
each_has_operator types entries place [] = tt
each_has_operator types entries place (tree.Plain s ∷ cs) = (of_parts place.sight s.parts, each_has_operator types entries (behind types place (tree.Plain s)) cs)
each_has_operator types entries place (tree.Negated s ∷ cs) = (of_parts place.sight s.parts, each_has_operator types entries place cs)
each_has_operator types entries place (tree.Existing s ∷ cs) = (of_parts place.sight s.parts, each_has_operator types entries place cs)
each_has_operator types entries place (tree.Folded result s kind arg tests ∷ cs) =
    (of_parts place.sight s.parts, each_has_operator types entries (behind types place (tree.Folded result s kind arg tests)) cs)
