-- Names from modules that two proofs and more cite, passed on from one place. Declares nothing.
pub use Rattle.std.proofs.Common.{Bool, IfSome, List, None, Option, SFits, Some, [], ap, append-nil, arith, cond, false, if◌then◌else◌, inl, inr, int_eq}
pub use Rattle.std.proofs.Common.{int_lt, length, map, not, pos, refl, slice_get, subst, suc, sym, take, to_z-of_z, true, w64, zero, ℕ, ℤ, ⊎_elim, ◌&&◌, ◌++◌}
pub use Rattle.std.proofs.{Common.{◌+ℤ◌, ◌+◌, ◌-ℤ◌, ◌<ℤ◌, ◌<◌, ◌==◌, ◌^◌, ◌||◌, ◌∙◌, ◌∷◌, ◌≡◌, ◌≤ℤ◌, ◌⊎◌}, lemmas.Bool.{and_from, and_parts}}
pub use Rattle.std.proofs.lemmas.{Bool.{false_from_ne_true, Decides.{Decides-eqb, Decides-int_eq, nat_tests, same_from_decides}}, Int.{clamps, ints}}
pub use Rattle.std.specs.{Int.{w128, Signed.{≤ℤ_refl}}, List.{AllByRecursion, filter, list_any}, Option.{is_some, option_map}, Ordering.{eq_by_cmp, is_eq}}
pub use Rattle.{beta_join.specs.{Doors.{joined_pattern}, declared.join.BetaJoin.{BetaJoin}}, beta_node.specs.Loading.{AreExtrasBeside, CountsLaden, IsAside}}
pub use Rattle.beta_node.specs.{Loading.{IsExtraBeside, IsLoad, IsLost, IsResumed, Laden, ResumesLaw, WaitsLaden, node_rows}, Nodes.{CountsPartners, FoldsFor}}
pub use Rattle.beta_node.specs.{Nodes.{NodeStands, WaitsFor, condition_of}, Quiet.{IsBefore, IsDue, IsQuiet, at_clock}, Turns.{IsConditionTurn}}
pub use Rattle.{beta_node.specs.declared.node.{FoldNode.{FoldNode}, Node.{Node}}, condition_rows.proofs.Alike.{candidate_alike, clean_of_none, facts_alike}}
pub use Rattle.condition_rows.proofs.{Alike.{held_known, joining_alike, known_too, looks_alike, remembered_alike, row_alike}, Ends.{in_name, name_in}}
pub use Rattle.condition_rows.proofs.{Holding.{held_all}, Joined.{candidates_named}, Partners.{asked_first, partner_in, partners_once, valued_clean}}
pub use Rattle.condition_rows.specs.{Lines.{line}, Looks.{HasAllOf, NameHeld, empty_snapshot}, Sets.{candidate_names, candidates_of, held, partners}}
pub use Rattle.fold_fn.{proofs.ResultLemmas.{length-rising, result-rising, result_same}, specs.{Held.{Held}, Order.{in_rising_order, times}}}
pub use Rattle.fx_base.{proofs.{Orders.{int_lt-le, ≤ℤ_trans}, Tests.{and_implied, and_where, not_not, or_and_excluded, or_and_implied}}, specs.Lists.{EachOnce}}
pub use Rattle.{fx_base.specs.{Lists.{In}, declared.fact.Fact.{Fact}}, join_tests.specs.Joins.{Look, joins, versions_at}}
pub use Rattle.{laden_rows.specs.Extras.{lost_partners, values_gathered}, not_node.proofs.{Lawful.{not_law}, Maturing.{moment_alike, row_mature}}}
pub use Rattle.not_node.{proofs.Quiet.{dropped_none_due, none_due, quiet_law, waits_own}, specs.Doors.{awaited_entry, blocker_tallies, blocking_pattern}}
pub use Rattle.not_node.specs.{Doors.{reached_floor, waiting_rows}, Moments.{moment_at}, Rows.{IsInStep, not_rows, unblocked}, Waiting.{NoneDue, later, mature}}
pub use Rattle.{not_node.specs.{Waiting.{waits}, declared.node.NotNode.{NotNode}}, join_memory.proofs.Joining.{name_decides, row_decides}}
pub use Rattle.join_memory.{proofs.Moving.{joins_alike, named_alike}, specs.{Inputs.{IsNameDifference, IsStepped, row_naming}, Joined.{has_name, AreDistinct}}}
pub use Rattle.join_memory.specs.{Memories.{KeepsMemories, has_left, has_right, left_at, made}, Standing.{AlikeOn, LooksAlike, StandsFor, clean, cleaned}}
pub use Rattle.join_memory.specs.{Standing.{either, no_names, no_rows, remembered}, Valued.{shows_value, splits_value, unvalued, without_value}}
pub use Rattle.{join_memory.specs.declared.memories.Memories.{Memories}, row_change.specs.Changes.{IsDifference, are_none, changes_nothing}}
pub use Rattle.row_delta.specs.{NameOrder.{name_cmp, name_equiv}, Rows.{InOrder, has, row_cmp}, declared.{delta.Delta.{Delta}, extra.Extra.{Extra}}}
pub use Rattle.{row_delta.specs.declared.row.{Named.{Named}, Row.{Row}}, rule_model.proofs.Floors.{clock_below_floor, floor_on, same_floor}}
pub use Rattle.rule_model.{proofs.Once.{once_filter, once_map, one_fact}, specs.{Distinct.{HaveDistinctTags}, Lent.{Holds, bound_in}, Moments.{IsAt}}}
pub use Rattle.rule_model.specs.{Moments.{snapshot_at}, Rows.{argument, pattern_of, result_of}, Snapshots.{Snapshot, floor}, Tests.{results_hold}}
pub use Rattle.rule_model.specs.{Tuples.{Bindings, name_of}, Types.{lateness_of}, declared.condition.{Accumulate.{Accumulate}, Condition.{Condition}}}
pub use Rattle.rule_model.specs.declared.{condition.{Condition.TheVariants.{Existing, Folded, Negated, Plain}, Pattern.{Pattern}}, moment.Moment.{Moment}}
pub use Rattle.{rule_model.specs.declared.program.Program.{Program}, counting_node.proofs.{Gathering.{same_values}, Lawful.{drop_law, gathered_shown}}}
pub use Rattle.counting_node.proofs.{Lawful.{itself_facts, start_law, tally_law, without_value_facts, witnesses_shown}, Resuming.{blockers_made_up}}
pub use Rattle.counting_node.{proofs.Resuming.{gathered_made_up, load_law, others_law, resume_law, witnesses_made_up}, specs.Counts.{IsNumber, counts_blockers}}
pub use Rattle.counting_node.specs.{Counts.{counts_witnesses, where_unblocked, where_witnessed, zero_where}, Doors.{tallied_pattern}, Extras.{AllLaden}}
pub use Rattle.counting_node.specs.Extras.{AreExtrasOf, CountsOthers, IsBeyond, IsExtraFor, IsTallyLaden, arguments_gathered, blockers_laden, counts_more}
pub use Rattle.counting_node.specs.{Extras.{extra_for, gathered_laden, nothing_gathered, rows_of_extras, witnesses_laden}, Gathers.{argument_given}}
pub use Rattle.counting_node.specs.{Gathers.{argument_of, gathers, is_result, result_for, tested}, Laws.{ForgottenStay, LadenLaw, StandsCounted, StandsLaden}}
pub use Rattle.counting_node.specs.{Laws.{all_passing, lost_passing}, Origins.{itself, shows_any}, Tallies.{SeeAlike, TallyStep, offers, output_from}}
pub use Rattle.counting_node.specs.{Tallies.{output_some, shown}, declared.{count.{Blockers.{Blockers}, Witnesses.{Witnesses}}, node.TallyNode.{TallyNode}}}
pub use mathlib.Core.Path.{fun_ext}
