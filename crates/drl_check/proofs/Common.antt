-- Names from modules that two proofs and more cite, passed on from one place. Declares nothing.
pub use Rattle.std.proofs.Common.{◌≡◌, ◌++◌, ap, Some, [], refl, sym, ℕ, ◌∙◌, List, None, ◌∷◌, arith, false, Bool, Option, length, map, subst, true, drop, not}
pub use Rattle.std.proofs.Common.{◌≤◌, slice_get, suc, zero, ◌&&◌, ◌+◌, append_assoc, nat_le, nat_lt, ◌||◌, cond, is_some, option_map, take, ◌<◌, length-append}
pub use Rattle.std.proofs.Common.{min, ℤ, int_lt, negsuc, pos, unsigned_abs, Err, IfOk, Ok, Result, add-one, get_or, inl, inr, int_le, sum_by, ◌↔◌}
pub use Rattle.std.proofs.lemmas.{Bool.Decides.{nat_tests}, Int.{ints}, List.{length-map, append-nil, map-append, length-take-le, Elements.{All-cons, All-nil}}}
pub use Rattle.std.proofs.lemmas.{List.Elements.{All-same, All-append, All-weaker}, Option.{slice_get-map, slice_get_within, same_Some}}
pub use Rattle.{std.specs.{List.{list_all, flat_map, list_any, All, filter}, Option.{option_and_then}, Str.{bytes_eq}}, drl_check.specs.Checks.{AllPass}}
pub use Rattle.drl_check.specs.Checks.{IsAcceptedFile, lacks_type, Failure, codes_in_order, first_code, has_bad_params, is_wrong_kind, lacks_variable}
pub use Rattle.drl_check.specs.Checks.{IsFirstFailure, fails, failure_at, failure_of, needs_event, FailsFirst, PassesChecks, failure_from, fixes_event}
pub use Rattle.drl_check.specs.{Checks.{has_bad_reference}, Events.{is_event_meant, is_no_event, is_of_events, marks_event, modifies_event}}
pub use Rattle.drl_check.specs.Params.{expires_at_once, has_short_expiry, is_condition_refused, is_empty_window, is_negative_number, is_part_refused}
pub use Rattle.drl_check.specs.{Params.{is_source_refused}, Solvable.{HasFewConditions, HasNetwork, never_matches, never_matches_alone}}
pub use Rattle.drl_check.specs.Twice.{annotation_word, is_repeated, assigns_once, attr_word, variables_bound, bound_variables, part_variable, set_names}
pub use Rattle.drl_check.specs.{Twice.{source_variables}, declared.fault.CheckCode.{CheckCode, TheVariants.{LimitPassed, UnknownType, BadParams}}}
pub use Rattle.drl_check.specs.declared.fault.CheckCode.TheVariants.{UnknownVariable, WrongKind, NotAnEvent, TwiceDeclared, BadReference, EventFixed}
pub use Rattle.drl_check.specs.declared.fault.CheckCode.TheVariants.{NeverMatches, BadTimestamp, EventObserved, ReferenceFixed, UnknownField}
pub use Rattle.{drl_check.specs.declared.fault.CheckFault.TheVariants.{Refused, NoMemory}, drl_expr.specs.Tree.{Tree, add, lit, mul, neg, sub, var, var_field}}
pub use Rattle.drl_grammar.specs.declared.{condition.{CondTree.{CondTree}, Part.{Part}, SourceTree.{SourceTree}}, file.{Body.{Body}, File.{File}, Item.{Item}}}
pub use Rattle.{drl_grammar.specs.declared.file.{RuleTree.{RuleTree}, TypeTree.{TypeTree}}, drl_limits.specs.Limits.{exceeds_limit_behind, actions_within}}
pub use Rattle.drl_limits.specs.Limits.{attr_within, condition_within, has_few_entries, rule_within, is_name, type_within, meta_within, action_within}
pub use Rattle.drl_limits.specs.Limits.{entry_within, is_entry_name, lateness_within, part_within, source_within, tests_within, variable_within, weight}
pub use Rattle.{drl_limits.specs.Limits.{window_within}, drl_compile.proofs.{Flagged.{one_for_each, observed_are_flagged}, Timed.{each_has_operator}}}
pub use Rattle.drl_compile.specs.{Observed.{observed_names}, Programs.{program_of, rule_of, type_info, condition_meant, type_place, action_of}}
pub use Rattle.drl_compile.specs.Programs.{conditions_meant, entry_info, expression_in, fact_meant, set_in, types_alone, count_meant, field_info, field_place}
pub use Rattle.drl_compile.specs.Programs.{kind_or_int, small_place, time_test, time_tests_in, type_meant, variable_field_value, variable_value, window_meant}
pub use Rattle.drl_scope.specs.{Annotations.{declared_expiry, is_tree_of_events, reference_of}, Declarations.{rules_of, types_of, type_names, field_names}}
pub use Rattle.drl_scope.specs.{Declarations.{rule_in, type_in, type_tree_named, rule_names, kind_at, kind_by_word}, EntryPoints.{entry_names}}
pub use Rattle.drl_scope.specs.EntryPoints.{declared_entries, entries_named, default_name, entries_declared, lateness_or_zero, lateness_with, source_of}
pub use Rattle.{drl_scope.specs.{EntryPoints.{with_entry_name, with_names}, Names.{place_of_name, is_name_short}}, drl_expr.specs.Words.{is_among}}
pub use Rattle.drl_scope.specs.Sight.{begin, Sight, Meaning, Place, behind, of_fact, of_field, of_result, sight_of_actions, meaning_of, seen_fact, seen_field}
pub use Rattle.{drl_scope.specs.Sight.{seen_in, seen_of, seen_result, behind_all, is_bound_by}, drl_typing.specs.Kinds.{has_wrong_kind, taken_by, word_kind}}
pub use Rattle.drl_typing.specs.Kinds.{action_misfits, args_misfit, argument_misfits, insert_misfits, is_number, is_value, modify_misfits, number_where}
pub use Rattle.drl_typing.specs.{Kinds.{part_misfits, set_misfits, source_misfits, test_misfits, tree_kind}, Uses.{has_unknown_type, has_unknown_variable}}
pub use Rattle.drl_typing.specs.Uses.{any_condition, inserts_unknown_type, is_type_unknown, action_unseen, leaf_unseen, part_unseen, source_unseen}
pub use Rattle.{drl_typing.specs.Uses.{target_unseen, test_unseen}, life_edges.specs.Edges.{HaveNetwork, condition_edges, edges_of_conditions, net_edge}}
pub use Rattle.{life_edges.specs.Edges.{test_edges}, life_meaning.specs.Networks.{AreSolvable}, rule_model.specs.Expressions.{Expression}}
pub use Rattle.rule_model.specs.{Types.{is_event_type, is_point_type, is_reference_type}, declared.{condition.Condition.{Condition}, program.Program.{Program}}}
pub use Rattle.{rule_model.specs.declared.{program.Rule.{Rule}, test.TimeTest.{TimeTest}}, rule_world.specs.Programs.{IsRunnable, NameEarlier, has_conditions}}
pub use Rattle.rule_world.specs.{Programs.{has_few_actions, UseOperators, has_expiry, has_lateness, has_window, has_windows, is_window}, Typed.{bound_fields}}
pub use Rattle.rule_world.specs.Typed.{bound_types, expression_kind, fields_in, set_of_kind, action_fits, args_fit, bindings, is_kind, is_plain_bound}
pub use Rattle.rule_world.specs.Typed.{is_plain_type, kind_in, rule_fits}
