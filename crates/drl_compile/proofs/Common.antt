-- Names from modules that two proofs and more cite, passed on from one place. Declares nothing.
pub use Rattle.std.proofs.Common.{◌≡◌, drop, ◌++◌, map, refl, List, ◌∙◌, ap, None, Option, Some, [], sym, ℕ, ◌+◌, Bool, false, true, ◌∷◌, ◌≤◌, IfSome, arith}
pub use Rattle.std.proofs.Common.{cond, length, min, not, option_map, subst, ◌&&◌, ◌<◌, ◌||◌, append_assoc, get_or, is_some, neg_ℤ, pos, slice_get, suc, zero}
pub use Rattle.std.proofs.{Common.{ℤ, ◌*◌, ◌<ℤ◌, ◌==◌, ◌^◌}, lemmas.List.{append-nil, at_drop_all, at_drop_more, length-map, Folds.{Any-from_list_any}}}
pub use Rattle.std.{proofs.lemmas.List.Folds.{list_any-append}, specs.{List.{flat_map, filter, list_all, list_any, All}, Option.{option_and_then}}}
pub use Rattle.{drl_grammar.specs.declared.{condition.Cmp.{Cmp}, file.TypeTree.{TypeTree}}, drl_compile.specs.Laws.{EachHasOperator, ObservedAreFlagged}}
pub use Rattle.drl_compile.specs.{Laws.{OneForEach, has_type, has_types}, Observed.{observed_by, observed_names, has_length}, Operators.{operator_of}}
pub use Rattle.drl_compile.specs.{Operators.{is_negative}, Programs.{compare_of, tests_in, time_tests_in, field_bound, is_constant, is_joined, rule_of}}
pub use Rattle.drl_compile.specs.Programs.{side_of, type_info, action_of, argument_place, condition_meant, conditions_meant, entry_info, expression_in}
pub use Rattle.drl_compile.specs.Programs.{fact_meant, field_info, result_test, salience_meant, set_in, time_test, type_or_none, type_place, window_meant}
pub use Rattle.{drl_scope.specs.{Declarations.{rules_of, types_of, type_tree_named, type_names}, Names.{place_of_name}}, drl_expr.specs.Words.{is_among}}
pub use Rattle.{drl_scope.specs.Sight.{begin, behind, Place, Sight, behind_all, meaning_of}, temporal_ops.specs.Edges.{IsOp, IsWithin}}
pub use Rattle.temporal_ops.specs.declared.edge.OpEdge.{OpEdge}
