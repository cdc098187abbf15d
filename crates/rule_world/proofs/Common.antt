-- Names from modules that two proofs and more cite, passed on from one place. Declares nothing.
pub use Rattle.std.proofs.Common.{true, ◌≡◌, List, refl, [], ◌∙◌, ◌∷◌, Bool, sym, ℕ, Some, arith, None, ap, false, ℤ, Option, inl, inr, subst, ◌&&◌, not, ◌==◌}
pub use Rattle.std.proofs.{Common.{◌++◌, ◌||◌, cond, map, ◌+◌, ◌≤ℤ◌, pos, suc, zero, ◌<◌, ◌+ℤ◌, ◌-ℤ◌, ◌≤◌, ◌⊎◌}, lemmas.{Bool.Decides.{nat_tests}, Int.{ints}}}
pub use Rattle.std.{proofs.lemmas.{Int.{clamps}, List.{append-nil, append_assoc, map-append}, Map.Views.{tells_apart}, Simd.{map-map}}, specs.List.{filter}}
pub use Rattle.std.specs.{List.{list_all, list_any, flat_map}, Ordering.{eq_by_cmp}, Prelude.{if◌then◌else◌, slice_get, nat_lt, length, int_lt, option_map}}
pub use Rattle.{std.specs.Prelude.{slice_set}, fx_base.specs.{Lists.{In, EachOnce}, declared.{fact.Fact.{Fact}, ids.{FactId.{FactId}, Tag.{Tag}}}}}
pub use Rattle.{fx_base.specs.declared.{ids.TypeId.{TypeId}, kind.Kind.{Kind}, value.Value.{Value}}, row_delta.specs.declared.row.Row.{Row}}
pub use Rattle.rule_model.proofs.{Exact.{fire_exact, match_exact, fire_match}, Firsts.{first_in, first_least, or_split}, Floors.{last_below_floor, same_floor}}
pub use Rattle.rule_model.proofs.{Grown.{GrowsAll, IsGrown, listed_grown}, Listed.{of_map}, Named.{of_filter, AllOf, made_of}, Once.{marked_once_filter}}
pub use Rattle.rule_model.proofs.{Once.{marked_once_more, once_facts, once_filter, once_map, one_fact, one_marked}, Order.{in_filter, passed}, RuleOf.{has_in}}
pub use Rattle.rule_model.specs.Candidates.{is_present, is_within, candidates, fits, is_candidate, is_inside, passes, passing, count_behind, is_behind}
pub use Rattle.rule_model.specs.{Distinct.{HaveDistinctIds, HaveDistinctTags}, Expressions.{Expression, add, bound, folded, lit, mul, neg, sub}, First.{first}}
pub use Rattle.rule_model.specs.{MatchOrders.{fire_total, match_equiv}, Matches.{has_match, matches, fire_cmp, saliences, match_cmp, matches_from}}
pub use Rattle.rule_model.specs.{Numbers.{value_of, value_or_zero, overflows}, Planned.{id_at, type_or_first}, Rows.{extended, result_of, rows, tuples}}
pub use Rattle.rule_model.specs.{Rows.{with_result}, Snapshots.{Snapshot, floor}, Tests.{tests_hold, field_of, number_given}, Tuples.{Tuple, Bindings}}
pub use Rattle.rule_model.specs.{Tuples.{bound_by, empty_tuple, name_of, unbound, row_of, with_fact}, Types.{is_event, expiry_of, is_event_type, is_point_type}}
pub use Rattle.rule_model.specs.{Types.{is_reference}, declared.condition.Condition.{Condition, TheVariants.{Existing, Folded, Negated, Plain}}}
pub use Rattle.rule_model.specs.declared.{condition.Pattern.{Pattern}, matched.Match.{Match}, program.{Program.{Program}, Rule.{Rule}, TypeInfo.{TypeInfo}}}
pub use Rattle.rule_model.specs.declared.step.Step.{Step, TheVariants.{Advance, At, Begin, Insert, Modify, Promise, Retract}}
pub use Rattle.rule_world.specs.Events.{clock_fault, new_fault, promise_fault, duration_by, duration_of, event_fault, event_times, most_millis, no_times}
pub use Rattle.rule_world.specs.{Events.{start_of, times_of}, Kinds.{sets_fit, values_fit, has_kind, set_fits, have_kinds}, Lawful.{IsOrdered, IsLawful}}
pub use Rattle.rule_world.specs.{Lawful.{IsSoundFact, ids_below, tags_below, EventsInOrder, FollowedBy, IsTimed}, Typed.{bound_fields, bound_types}}
pub use Rattle.rule_world.specs.Typed.{expression_kind, fields_in, kind_in, set_of_kind, action_fits, args_fit, is_kind, is_plain_bound, is_plain_type}
pub use Rattle.rule_world.specs.{Typed.{rule_fits}, Worlds.{World, has_id, snapshot, revised, new_fact, pending, settled, fact_of, found, modify_fault}}
pub use Rattle.rule_world.specs.Worlds.{still_fired, world_at_clock, first_pending, present, revised_in, last_start_with, marked, only_present, retracted_in}
pub use Rattle.rule_world.specs.Worlds.{with_new, empty_world, insert_fault, is_of_type, stepped, with_begin, with_promise, with_retracted, with_revised}
pub use Rattle.rule_world.specs.Worlds.{with_values}
pub use mathlib.Core.Path.{fun_ext}
