-- Names from modules that two proofs and more cite, passed on from one place. Declares nothing.
pub use Rattle.std.proofs.Common.{Bool, List, None, Option, Some, [], ap, ap₂, arith, cond, false, inl, inr, map, not, option_map, pos, refl, subst, suc, sym}
pub use Rattle.std.proofs.{Common.{true, zero, ℕ, ℤ, ◌&&◌, ◌++◌, ◌+ℤ◌, ◌+◌, ◌-ℤ◌, ◌<◌, ◌==◌, ◌||◌, ◌∙◌, ◌∷◌, ◌≡◌, ◌≤ℤ◌, ◌≤◌}, lemmas.Bool.{and_from, and_parts}}
pub use Rattle.std.proofs.lemmas.{Bool.{eq-eqb, eqb-true, false_from_ne_true, lt-ltb, ltb-true}, List.{length-map, map-append}, Option.{slice_get-map}}
pub use Rattle.std.{proofs.lemmas.{Option.{slice_get_within}, Simd.{map-map}}, specs.{List.{filter, flat_map, list_all, list_any}, Option.{option_and_then}}}
pub use Rattle.{std.specs.Prelude.{if◌then◌else◌, length, nat_lt, slice_get}, fx_base.proofs.{Sequences.{In-append, get-below}, Tests.{same_test}}}
pub use Rattle.fx_base.specs.{Lists.{EachOnce, In}, declared.{fact.Fact.{Fact}, times.Times.{Times}, value.Value.{Value}}}
pub use Rattle.{row_delta.specs.declared.row.Row.{Row}, change_resolve.proofs.Places.{some_is}, rule_change.specs.Alike.{AlikeAtChange, AlikeMarked}}
pub use Rattle.rule_change.specs.Alike.{AlikeSteps, AlikeWithout, AreAlike, AreOver, HasPlaces, HaveNames, HavePlaces, IsStepOf, SameFault, SamePending, as_old}
pub use Rattle.rule_change.specs.{Alike.{moved_step}, Changed.{AreFrom, IsSameRule, carried, carried_life, entry_in, is_marked, life_or, moment_or_zero}}
pub use Rattle.rule_change.specs.Changed.{moved_condition, moved_fact, moved_pattern, moved_rule, moved_world, new_entry, new_type, place_or_zero, was_fired}
pub use Rattle.{rule_change.specs.Refused.{HaveEntries, HaveTypes, IsLonger, IsSameType, is_longer}, rule_model.proofs.Exact.{decides_by, match_exact}}
pub use Rattle.rule_model.proofs.{Listed.{in_left, in_map, in_right, of_map}, Once.{once_append, once_filter, once_map, rows_once}}
pub use Rattle.rule_model.specs.Candidates.{candidates, count_behind, fits, is_behind, is_candidate, is_inside, is_present, is_within, passes, passing}
pub use Rattle.rule_model.specs.{Distinct.{HaveDistinctTags}, MatchOrders.{match_equiv, match_total}, Matches.{has_match, match_cmp, match_of, matches}}
pub use Rattle.rule_model.specs.{Matches.{rows_by_rule}, Maturity.{bound_of, bounds_of, is_past, start_window_at, window_by_lists}, Rows.{argument, extended}}
pub use Rattle.rule_model.specs.{Rows.{result_of, rows, tuples, with_result}, Snapshots.{Snapshot, floor, floor_by}, Tests.{compare_holds, field_of}}
pub use Rattle.rule_model.specs.{Tests.{related_given, results_hold, side_value, test_holds, tests_hold, time_holds_with, times_hold}, Tuples.{Tuple, bound_by}}
pub use Rattle.rule_model.specs.{Tuples.{empty_tuple, name_of, row_of, unbound, with_fact, with_value}, Types.{expiry_in, is_event, is_event_type, is_observed}}
pub use Rattle.rule_model.specs.{Types.{is_point, is_point_type, is_reference, is_reference_type, lateness_in, lateness_of}, declared.matched.Match.{Match}}
pub use Rattle.{rule_model.specs.declared.program.{Program.{Program}, TypeInfo.{TypeInfo}}, rule_world.proofs.Pending.{has_pending, has_still}}
pub use Rattle.rule_world.specs.Events.{clock_fault, duration_by, event_fault, most_millis, new_fault, no_times, promise_fault, start_by, times_of}
pub use Rattle.rule_world.specs.{Kinds.{have_kinds, values_fit}, Lawful.{EventsInOrder, FollowedBy, IsLawful, IsSoundFact}, Worlds.{World, found, has_id}}
pub use Rattle.rule_world.specs.Worlds.{is_of_type, last_start_with, modify_fault, new_fact, present, retracted_in, revised, revised_in, settled, snapshot}
pub use Rattle.rule_world.specs.Worlds.{still_fired}
pub use mathlib.Core.Path.{fun_ext}
