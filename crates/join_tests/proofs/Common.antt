-- Names from modules that two proofs and more cite, passed on from one place. Declares nothing.
pub use Rattle.std.proofs.Common.{◌∙◌, map, ap, ◌≡◌, sym, List, drop, [], ◌∷◌, Option, None, Some, arith, refl, ◌++◌, Bool, SFits, false, rules, subst}
pub use Rattle.std.proofs.Common.{to_z-of_z, true, w64, ℕ, ℤ, ◌&&◌, cond, inl, inr, pos, ◌+ℤ◌, ◌≤ℤ◌, ◌⊎◌, length, negsuc, ◌+◌, ◌<◌, ◌||◌, ◌≤◌, get_or}
pub use Rattle.std.{proofs.{Common.{slice_get, suc, take, ◌*◌, ◌-ℤ◌, ◌≢◌}, lemmas.Int.{ints, by_lt_z}}, specs.Int.{cast_signed, int_div_euclid}}
pub use Rattle.std.specs.{Option.{option_map, is_some, option_and_then, option_or}, declared.hash.FoldHasher.{FoldHasher}}
pub use Rattle.fx_base.specs.{SameValues.{equal_values, same_itself}, Values.{same_value}, declared.{fact.Fact.{Fact}, value.Value.{Value, TheVariants.{Int}}}}
pub use Rattle.join_tests.specs.{Joins.{Look, versions_at, passes_given, version_at, is_named_version, tuple_at}, Kept.{with_slot, kept_under, once}}
pub use Rattle.join_tests.specs.{Kept.{is_value_among, sought_under}, Keying.{part, and_more, and_one}, Keys.{join_keys, as_one, fed_with, candidate_part}}
pub use Rattle.join_tests.specs.Keys.{keys_of_tests, keys_of_compares, row_part, given_or_true, keys_of_choices, earlier_value, in_front, key_of_compare}
pub use Rattle.join_tests.specs.{Keys.{key_of_side, key_of_sides}, RowKeys.{row_side_of, side_part, kept_by_time, row_key, row_time, value_by}}
pub use Rattle.join_tests.specs.Slots.{slot_value, moment_at_point, row_moment, candidate_moment, first_candidate, first_event, last_candidate, last_event}
pub use Rattle.join_tests.specs.{Slots.{point_of_times, in_64_bits, slot_of}, TimeKeys.{time_key, key_of_times, most_between, candidate_corner, event_corner}}
pub use Rattle.join_tests.specs.{TimeKeys.{key_at, key_between, key_of_edges, key_of_span, same_corner}, declared.key.JoinKey.{JoinKey}}
pub use Rattle.join_tests.specs.declared.{key.Keying.TheVariants.{Nothing, One, Several}, time_key.TimeKey.{TimeKey}}
pub use Rattle.{row_delta.specs.declared.row.{Named.{Named}, Row.{Row}}, rule_model.specs.{Lent.{tuple_of, Holds, bound_in}, Tests.{field_of, times_hold}}}
pub use Rattle.rule_model.specs.Tests.{compare_holds, compares_hold, number_given, related, related_given, related_side, side_value, test_holds, tests_hold}
pub use Rattle.rule_model.specs.{Tests.{time_holds, time_holds_with}, Tuples.{Bindings, Tuple, bound_by, name_of, row_of}, declared.condition.Pattern.{Pattern}}
pub use Rattle.rule_model.specs.declared.test.{Compare.{Compare}, Test.{Test}}
