-- Names from modules that two proofs and more cite, passed on from one place. Declares nothing.
pub use Rattle.std.proofs.Common.{Bool, IfSome, List, None, Option, Some, [], ap, arith, cond, drop, false, get_or, inl, inr, int_le, int_lt, length, map}
pub use Rattle.std.proofs.Common.{nat_lt, not, option_map, pos, refl, subst, sym, true, ℕ, ℤ, ◌&&◌, ◌++◌, ◌+◌, ◌-ℤ◌, ◌<ℤ◌, ◌<◌, ◌==◌, ◌||◌, ◌∙◌, ◌∷◌, ◌≡◌, ◌≤ℤ◌}
pub use Rattle.std.proofs.{Common.{◌≤◌, ◌⊎◌}, lemmas.{Bool.{and_parts, not-false, not-true, Decides.{Decides-eqb, nat_tests}}, Int.{ints, to_z-of_z}}}
pub use Rattle.std.{proofs.lemmas.List.{append-nil, append_assoc, at_drop_all, at_drop_more, length-map, map-append}, specs.Borrow.{Bor}}
pub use Rattle.std.specs.{List.{AllByRecursion, filter, list_any, Sorted.{IsStrictlySortedBy}}, Option.{option_to_list}, Ordering.{nat_cmp}}
pub use Rattle.{std.specs.declared.cmp.Ordering.TheVariants.{Less}, condition_rows.specs.Sets.{candidates_of}, fx_base.specs.Lists.{In}}
pub use Rattle.{fx_base.specs.declared.{fact.Fact.{Fact}, ids.Tag.{Tag}}, join_memory.specs.{Inputs.{IsNameDifference, row_naming}, Standing.{no_names}}}
pub use Rattle.{join_memory.specs.Standing.{no_rows}, pattern_gate.specs.Gates.{GateStands, LeavesBy, arrival_of, arrivals, has_good_window, window_kind_of}}
pub use Rattle.pattern_gate.specs.{Moves.{IsOrderly, MovesSnapshot, at_clock, shares_tag}, Turns.{LetsAllCome, LetsAllGo, LetsCome, LetsGo, ReachesArrivals}}
pub use Rattle.pattern_gate.specs.Turns.{TakesStep, is_given_meant, is_meant, is_one_meant, less_fact, less_facts, more_fact, more_facts}
pub use Rattle.{pattern_gate.specs.declared.gate.PatternGate.{PatternGate}, row_change.specs.Changes.{IsDifference, LeadsRows, along, without}}
pub use Rattle.row_delta.specs.{Differences.{IsBetween}, Rows.{has}, declared.{delta.Delta.{Delta}, row.{Named.{Named}, Row.{Row}}}}
pub use Rattle.rule_model.proofs.{Listed.{in_left, in_map, in_right, of_map}, Named.{AllOf, of_filter}, Order.{in_filter, passed}}
pub use Rattle.rule_model.specs.{Candidates.{candidates, fits, is_inside}, Distinct.{HaveDistinctTags, tag_cmp}, Lent.{lent}, Snapshots.{Snapshot}}
pub use Rattle.rule_model.specs.{Tuples.{name_of, unbound}, declared.condition.{Pattern.{Pattern}, WindowTag.{WindowTag, TheVariants.{Length, Time, Whole}}}}
pub use Rattle.{rule_model.specs.declared.program.Program.{Program}, rule_world.proofs.{Fresh.{distinct_filtered}, Kept.{filter_same, filter_swap}}}
pub use Rattle.window_gate.specs.Standing.{HoldsArrivals, KeepsWindow, KeepsLength, KeepsTime, LeavesAt, MayGo, MayPass, MayStart, StandsForArrivals}
pub use Rattle.window_gate.specs.{Standing.{TagsDiffer, TakesChange, most, window_kept, window_of, with_tag}, Windows.{Arrival, after, has_tag, inside}}
pub use Rattle.window_gate.specs.{Windows.{named_of, rows_inside}, declared.change.WindowKind.{WindowKind}}
