-- Names from modules that two proofs and more cite, passed on from one place. Declares nothing.
pub use Rattle.std.proofs.Common.{Bool, Bor, Contains, Global, List, None, Option, SFits, Some, Vec, [], add-one, ap, arith, cond, drop, false, get_or, int_eq}
pub use Rattle.std.proofs.Common.{int_lt, is_lt, length, map, nat_lt, not, of_calls, of_z, pos, refl, rules, subst, suc, sym, take, to_z, to_z-of_z, true, w64}
pub use Rattle.std.proofs.{Common.{zero, ℕ, ℤ, ⊎_elim, ◌&&◌, ◌++◌, ◌+◌, ◌-◌, ◌<◌, ◌==◌, ◌||◌, ◌∙◌, ◌∷◌, ◌≡◌, ◌≢◌, ◌≤◌}, Math.Bool.{and-true, or_comm}}
pub use Rattle.std.proofs.lemmas.{Bool.{and_from, and_left, and_parts, and_right, not-true, or_from, or_left, or_right}, Int.{ints}, List.{length-append}}
pub use Rattle.std.{proofs.lemmas.List.{length-map, map-append, take_all, take_more, Folds.{list_any-append, list_any_more}}, specs.List.{AllByRecursion}}
pub use Rattle.std.specs.{List.{AllWithin, cons_option, filter, list_any, Sorted.{IsNonDecreasingBy, IsPartitionPoint, IsSortedBy}}, Option.{is_some}}
pub use Rattle.std.specs.{Option.{option_map}, Ordering.{eq_by_cmp, is_eq, ordering_index, ordering_reverse}, declared.cmp.Ordering.TheVariants.{Equal}}
pub use Rattle.{std.specs.declared.cmp.Ordering.TheVariants.{Greater, Less}, fold_fn.proofs.ResultLemmas.{length-rising, result-rising}}
pub use Rattle.{fold_fn.{proofs.Rising.{insert-insert}, specs.{Held.{Held}, Order.{in_rising_order, insert_rising}}}, fx_base.proofs.Sequences.{is_some-false}}
pub use Rattle.fx_base.proofs.{Sequences.{is_some-map, is_some-value}, Tests.{and_first, and_is, and_second, not_not, same_test}}
pub use Rattle.{fx_base.specs.declared.ids.RuleId.{RuleId}, join_tests.specs.Joins.{Look, joins}, join_memory.proofs.Keeping.{seen_after, if_not}}
pub use Rattle.join_memory.proofs.{Joining.{name_decides, row_decides}, Turning.{any_name, keeps_then, less_more, more_more, name_absent, name_present}}
pub use Rattle.join_memory.{proofs.{Turning.{row_present}, Valued.{from_unvalued, row_valued, unvalued_with}}, specs.Inputs.{IsNameDifference, IsStepped}}
pub use Rattle.join_memory.specs.{Inputs.{row_naming}, Joined.{has_name, AreDistinct}, Memories.{Agrees, KeepsMemories, has_left, has_right, left_at}}
pub use Rattle.join_memory.specs.{Standing.{PassesAlike, StandsFor, clean, cleaned, either, no_names, remembered}, Valued.{shows_value, splits_value, unvalued}}
pub use Rattle.{join_memory.specs.{Valued.{with_row_value, without_value}, declared.memories.Memories.{Memories}}, row_change.proofs.Alike.{leads_alike}}
pub use Rattle.{row_change.specs.Changes.{LeadsRows, along, are_none, changes_nothing, without}, row_delta.specs.NameOrder.{name_cmp, name_equiv}}
pub use Rattle.row_delta.specs.{RowOrder.{row_exact, row_total, same_equiv}, Rows.{InOrder, has, row_cmp}, declared.{delta.Delta.{Delta}, extra.Extra.{Extra}}}
pub use Rattle.{row_delta.specs.declared.row.{Named.{Named}, Row.{Row}}, rule_model.specs.declared.condition.{Accumulate.{Accumulate}, Pattern.{Pattern}}}
pub use Rattle.counting_node.specs.{Beside.{IsExtraBesideRow, TellsBeside, one_or_none}, Counts.{IsNumber, counts_blockers, counts_witnesses, where_unblocked}}
pub use Rattle.counting_node.specs.{Counts.{where_witnessed, zero_where}, Extras.{AreApart, AreExtrasOf, CountsOthers, IsBeyond, IsTallyLaden}}
pub use Rattle.counting_node.specs.Extras.{arguments_gathered, blockers_laden, counts_more, extra_for, gathered_laden, nothing_gathered, rows_of_extras}
pub use Rattle.counting_node.specs.{Extras.{witnesses_laden}, Gathers.{Gathers, argument_given, argument_of, gathers, is_result, result_for, tested}}
pub use Rattle.counting_node.specs.Laws.{EmptyTallyLaw, ForgottenStay, GatheredLaw, LadenLaw, LoadLaw, OthersLaw, ResumeLaw, ShownLaw, StandsCounted}
pub use Rattle.counting_node.specs.{Laws.{TallyDropLaw, TallyForgetLaw, TallyLaw, TallyMoveLaw, all_passing, lost_passing}, Origins.{is_from, itself}}
pub use Rattle.counting_node.specs.{Origins.{shows_any}, Parts.{AllArrive, AllDropped, AllFollow, AllFollowMoved, AllLoaded, AllStay, AllTurned, PartStep}}
pub use Rattle.counting_node.specs.Tallies.{Arrives, FollowsCandidates, SeeAlike, StepsTally, TallyStep, TurnedIf, TurnedTally, changed_at, counted, less_one}
pub use Rattle.counting_node.specs.{Tallies.{offers, output_from, output_some, passing, shown, with_one}, declared.count.Blockers.{Blockers}}
pub use Rattle.counting_node.specs.declared.count.Witnesses.{Witnesses}
pub use mathlib.Core.Path.{fun_ext}
