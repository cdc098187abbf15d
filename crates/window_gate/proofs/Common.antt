-- Names from modules that two proofs and more cite, passed on from one place. Declares nothing.
pub use Rattle.std.proofs.Common.{Bool, Err, FitsSigned, Global, List, None, Ok, Option, Result, Some, Vec, [], ap, append-nil, append_assoc, arith, cond}
pub use Rattle.std.proofs.Common.{false, filter, get_or, inl, inr, length, map, min, negsuc, not, option_map, pos, refl, rules, subst, suc, sym, take, true}
pub use Rattle.std.proofs.Common.{w64, zero, ℕ, ℤ, ⊎_elim, ◌&&◌, ◌++◌, ◌+ℤ◌, ◌+◌, ◌-ℤ◌, ◌<ℤ◌, ◌<◌, ◌==◌, ◌||◌, ◌∙◌, ◌∷◌, ◌≡◌, ◌≤ℤ◌, ◌≤◌, ◌⊎◌}
pub use Rattle.std.proofs.{Math.Bool.{and-false, or-false}, lemmas.{Bool.Decides.{Decides-eqb, nat_tests}, Int.{ints, to_z-of_z}, List.{length-append}}}
pub use Rattle.std.{proofs.lemmas.List.{length-map, map-append, Folds.{find-append, list_any-append, list_any_more}}, specs.BTreeMap.{BTreeMap, get}}
pub use Rattle.std.specs.{BTreeMap.{insert_entry, is_at}, Cmp.{unsigned_tied}, List.{AllByRecursion, list_any, Sorted.{IsStrictlySortedBy}}, Map.{keys_of}}
pub use Rattle.std.specs.{Map.{lookup, remove_entry, values_of}, Option.{MatchOption, option_or, option_to_list}, Ordering.{eq_by_cmp, int_cmp, is_eq, is_gt}}
pub use Rattle.std.specs.{Ordering.{match_ordering, nat_cmp, ordering_then}, Prelude.{IfOk, IfSome, IsSomeAnd, int_le, int_lt, nat_lt}}
pub use Rattle.std.specs.declared.{cmp.Ordering.{Ordering, TheVariants.{Equal, Greater, Less}}, ops.Bound.TheVariants.{Included}}
pub use Rattle.{due_queue.{proofs.Clock.{come, not_later}, specs.Moments.{found, is_due, is_moment, pair_cmp}}, fx_base.proofs.Orders.{eqb-flip, is_eq-then}}
pub use Rattle.fx_base.{proofs.Tests.{and_not_self, or_first_false, or_second_false}, specs.declared.ids.FactId.{FactId}}
pub use Rattle.row_delta.specs.{DifferenceLaws.{between_disjoint}, Differences.{IsBetween}, NameOrder.{name_cmp, name_equiv, name_exact}, Rows.{InOrder, has}}
pub use Rattle.{row_delta.specs.{Rows.{row_cmp}, declared.{delta.Delta.{Delta}, row.{Named.{Named}, Row.{Row}}}}, window_gate.specs.Pieces.{BringsBack, Enter}}
pub use Rattle.window_gate.specs.{Pieces.{Leave, MakesRoom, Numbered, Removes, brings, has_time_come, is_id, leaves, takes_out}, Standing.{HeldArrivals}}
pub use Rattle.window_gate.specs.Standing.{HoldsArrivals, KeepsLength, KeepsTime, KeepsWindow, LeavesAt, MayChange, MayPass, StandsForArrivals, TagsDiffer}
pub use Rattle.window_gate.specs.Standing.{TakesChange, has_version, leaves_at, most, number_of, numbered, window_kept, window_of, with_tag}
pub use Rattle.window_gate.specs.{Windows.{Arrival, after, has_tag, inside, named_of, rows_inside, single}, declared.change.GateChange.{GateChange}}
pub use Rattle.window_gate.specs.declared.{change.{GateChange.TheVariants.{Clock, Come, Gone}, WindowKind.TheVariants.{Length, Time, Whole}}, gate.Kept.{Kept}}
pub use Rattle.window_gate.specs.declared.time_window.TimeWindow.{TimeWindow}
