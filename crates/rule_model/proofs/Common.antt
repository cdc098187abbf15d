-- Names from modules that two proofs and more cite, passed on from one place. Declares nothing.
pub use Rattle.std.proofs.Common.{Bool, List, None, Option, Some, [], ap, arith, cond, false, if◌then◌else◌, inl, inr, int_lt, length, map, nat_lt, not, of_z}
pub use Rattle.std.proofs.Common.{option_map, pos, refl, slice_get, subst, suc, sym, take, to_z, true, zero, ℕ, ℤ, ◌&&◌, ◌++◌, ◌+ℤ◌, ◌+◌, ◌-ℤ◌, ◌<ℤ◌, ◌<◌, ◌==◌}
pub use Rattle.std.proofs.{Common.{◌||◌, ◌↔◌, ◌∙◌, ◌∷◌, ◌≡◌, ◌≤ℤ◌, ◌⊎◌}, lemmas.Bool.{and_from, and_parts, or_left, or_right, Decides.{nat_tests}}}
pub use Rattle.std.proofs.lemmas.{Cmp.{eq_by_cmp_equiv, tied_itself}, Int.{clamps, ints}, Map.Lookups.{CmpEqualImpliesEq, exact_unsigned}}
pub use Rattle.std.{proofs.lemmas.Map.Views.{tells_apart}, specs.{Cmp.{IsTotalOrder}, List.{All, AllByRecursion, count_by, filter, flat_map, list_any}}}
pub use Rattle.std.specs.{Ordering.{eq_by_cmp, int_cmp, int_eq, is_eq, nat_cmp, ordering_reverse, ordering_then}, declared.cmp.Ordering.{Ordering}}
pub use Rattle.{std.specs.declared.cmp.Ordering.TheVariants.{Equal, Greater, Less}, fx_base.proofs.Orders.{int_lt-true, is_eq-then, is_eq-true, lt-int_lt}}
pub use Rattle.fx_base.{proofs.{Orders.{lt-nat_cmp, zero_add}, Sequences.{In-append}}, specs.{Lists.{EachOnce, In}, declared.{fact.Fact.{Fact}, ids.Tag.{Tag}}}}
pub use Rattle.{row_delta.specs.{Rows.{row_cmp, tags}, declared.row.{Named.{Named}, Row.{Row}}}, rule_model.specs.Candidates.{candidates, count_behind, fits}}
pub use Rattle.rule_model.specs.{Candidates.{is_behind, is_candidate, is_inside, is_within, passes, passing}, Distinct.{HaveDistinctTags}, Lent.{Holds}}
pub use Rattle.rule_model.specs.{Lent.{bound_in, named_at}, MatchOrders.{fire_total, match_equiv, match_total}, Matches.{fire_cmp, greatest_tag, has_match}}
pub use Rattle.rule_model.specs.{Matches.{match_cmp, match_of, matches, rows_by_rule, salience_of}, Maturity.{AreOperators, IsMature, IsPossible, bounds_of}}
pub use Rattle.rule_model.specs.{Maturity.{is_mature, is_past, of_none, of_past, of_plain, of_unbounded, start_window_at, window_by_lists}, Rows.{Extends}}
pub use Rattle.rule_model.specs.{Rows.{HaveOperators, IsRow, Makes, argument, extended, pattern_of, result_of, rows, tuples, with_result}, Snapshots.{Reached}}
pub use Rattle.rule_model.specs.{Snapshots.{Snapshot, floor, floor_by}, Tests.{results_hold, tests_hold, time_holds_with, times_hold}, Tuples.{Bindings, Tuple}}
pub use Rattle.rule_model.specs.{Tuples.{bound_by, empty_tuple, name_of, row_of, with_fact, with_value}, Types.{is_event, is_point, lateness_of}}
pub use Rattle.rule_model.specs.declared.condition.{Accumulate.{Accumulate}, Condition.{Condition, TheVariants.{Existing, Folded, Negated, Plain}}}
pub use Rattle.rule_model.specs.declared.{condition.Pattern.{Pattern}, matched.Match.{Match}, program.Program.{Program}}
