-- Names from modules that two proofs and more cite, passed on from one place. Declares nothing.
pub use Rattle.std.proofs.Common.{◌≡◌, ◌∙◌, sym, ap, Some, slice_get, List, length, subst, ℕ, refl, true, [], ◌<◌, arith, false, Option, ◌∷◌, Bool, None, ◌++◌}
pub use Rattle.std.proofs.Common.{take, ◌≤◌, ◌+◌, inl, inr, suc, zero, ℤ, not, ◌&&◌, ◌||◌, cond, get_or, ◌==◌, ◌-◌, ◌⊎◌, ◌^◌, ◌≤ℤ◌, map, nat_lt, length-append}
pub use Rattle.std.proofs.Common.{pos, w64, SFits, append-nil, of_z, to_z, to_z-of_z, Err, rules, ◌<ℤ◌, drop, nat_eq, zero-add, ◌+ℤ◌, Bor, FitsSigned, IfSome}
pub use Rattle.std.proofs.{Common.{int_lt, nat_le, ◌-ℤ◌, IsTrue, Ok, Result, add-one, is_lt, negsuc, option_to_list, ◌/◌}, Math.Bool.{and-false, and_assoc}}
pub use Rattle.std.proofs.Math.{Bool.{or-true}, ListN.{set, length-set, drop_of_length-le}, Seq.{get_or-append_seam, take-append_seam}}
pub use Rattle.std.proofs.lemmas.{Bool.{and_parts, or_left, Decides.{nat_tests, Decides-eqb, same_from_decides}}, Int.{ints}, List.{take_all, take_more}}
pub use Rattle.std.proofs.lemmas.List.{get_or-take, length-take-le, take-append-le, append_assoc, get_or_append_left, length-take, length_push, take_rest}
pub use Rattle.std.{proofs.lemmas.{Option.{slice_get_within, slice_get-get_or, get_or_from_slice_get}, Result.{on_ok_weaker}}, specs.BTreeMap.{get, Updates}}
pub use Rattle.std.specs.{BTreeMap.{is_at, BTreeMap}, Cmp.{eq_by_cmp_equiv, nat_cmp_is, nat_cmp_total}, Global.{Vec}, Int.{w128, Signed.{≤ℤ_refl}}}
pub use Rattle.std.specs.List.{filter, list_any, AllByRecursion, find, list_all, Sorted.{IsStrictlySortedBy, IsNonDecreasingBy, IsPartitionPoint, IsSortedBy}}
pub use Rattle.std.specs.{Option.{option_map, is_some, unwrap_or}, Ordering.{nat_cmp, eq_by_cmp, ordering_then, is_eq, is_gt, int_cmp, ordering_index}}
pub use Rattle.std.specs.{Ordering.{ordering_reverse}, Prelude.{slice_index_or, IsErrAnd, IsErrOf}, declared.cmp.Ordering.{Ordering, TheVariants.{Less, Equal}}}
pub use Rattle.{std.specs.declared.cmp.Ordering.TheVariants.{Greater}, beta_join.specs.declared.join.BetaJoin.{BetaJoin}}
pub use Rattle.{condition_rows.proofs.Alike.{held_known, joining_alike, clean_of_none, facts_alike}, beta_join.specs.Doors.{joined_pattern}}
pub use Rattle.beta_node.proofs.{Knowing.{AsksOfSet, blockers_ask, gathers_ask, witnesses_ask}, Moved.{node_moves, no_candidates}, Quietness.{join_quiet}}
pub use Rattle.beta_node.proofs.{Quietness.{exists_quiet, fold_quiet}, Still.{Stays, TellsNothing, exists_still, exists_tells_nothing, fold_still}}
pub use Rattle.beta_node.{proofs.Still.{fold_tells_nothing, join_still, join_tells_nothing, not_still, not_tells_nothing}, specs.Doors.{gathered_tallies}}
pub use Rattle.beta_node.specs.Loading.{AreExtrasBeside, IsAside, IsExtraBeside, IsLoad, IsLost, IsResumed, Laden, node_rows}
pub use Rattle.{laden_rows.specs.Extras.{lost_partners, values_gathered, extra_cmp, IsFirstWith, AreExtras, IsExtraIn}, beta_node.specs.Nodes.{condition_of}}
pub use Rattle.beta_node.specs.{Nodes.{NodeStands, is_negated, CountsPartners}, Quiet.{IsBefore, IsQuiet}, Turns.{CountedStay, IsConditionTurn}}
pub use Rattle.{beta_node.specs.declared.node.Node.{Node}, condition_rows.proofs.{Ends.{has_in, in_has, name_in}, Holding.{held_fact, held_in}}}
pub use Rattle.condition_rows.{proofs.{Joined.{candidate_of, candidate_named, candidates_named}, Naming.{rows_named}}, specs.Lines.{line, empty_row, gives}}
pub use Rattle.condition_rows.specs.{Lines.{is_ripe, is_empty_row, is_result}, Looks.{HasAllOf, NameHeld, empty_snapshot}, Sets.{candidates_of, held, rows_of}}
pub use Rattle.{condition_rows.specs.Sets.{has_partner, candidate_names}, fan_join.specs.Fans.{AreBeside, IsEmpty, IsMemberTurned, member_delta, IsReached}}
pub use Rattle.{fan_join.specs.Turns.{AreNamesTurned}, fx_base.specs.{Lists.{In}, declared.{fact.Fact.{Fact}, ids.{RuleId.{RuleId}, Tag.{Tag}}}}}
pub use Rattle.{fx_base.specs.declared.value.Value.{Value, TheVariants.{Int}}, laden_rows.proofs.Extras.{extra_count, extra_values, found_in}}
pub use Rattle.{laden_rows.specs.Laden.{extra_at, laden_line, count_of, laden, laden_with, extra_values_of}, join_tests.specs.Joins.{Look, joins}}
pub use Rattle.{join_tests.specs.RowKeys.{row_key}, join_memory.proofs.{Joining.{name_decides, row_decides}, Valued.{from_unvalued}, Worlds.{joined_clean}}}
pub use Rattle.join_memory.{proofs.Worlds.{clean_either}, specs.{Apart.{beside}, Inputs.{row_naming, IsNameDifference, IsStepped}, Joined.{has_name, joined}}}
pub use Rattle.join_memory.specs.{Joined.{splits, unjoined}, Memories.{made, has_left, has_right}, Standing.{cleaned, no_names, clean, either, remembered}}
pub use Rattle.join_memory.specs.{Standing.{StandsFor, no_rows, AlikeOn}, Valued.{splits_value, unvalued}, declared.candidates.Candidates.{Candidates}}
pub use Rattle.{join_memory.specs.declared.memories.Memories.{Memories}, pattern_gate.proofs.Arriving.{rising, filter_among, is_other, filter_both}}
pub use Rattle.pattern_gate.proofs.{Arriving.{filter_made, meant, number}, Inside.{inside_are}, Moving.{nothing_differs, same_arrivals, same_candidates}}
pub use Rattle.pattern_gate.{proofs.Moving.{stands_still, arrivals_still}, specs.Gates.{GateStands, has_good_window, arrivals, window_kind_of, arrival_of}}
pub use Rattle.pattern_gate.specs.{Moves.{IsOrderly, MovesSnapshot, at_clock, shares_tag}, Turns.{is_meant, is_one_meant}}
pub use Rattle.{pattern_gate.specs.declared.gate.PatternGate.{PatternGate}, range_index.specs.Ranges.{is_found}, rete_net.specs.Answers.{answer_in, left_given}}
pub use Rattle.rete_net.specs.{Answers.{AreRuled, IsAnswerPut, some_answer, given}, Bounds.{AreWithin}, Building.{AreGrown, IsParentNode, HaveEnds, AreBuilt}}
pub use Rattle.rete_net.specs.{Building.{AreDistinctFronts, IsBehindParent, AreFronts}, Dropped.{NodeForgets, TurnForgets, AreListed, rows_for, IsForgetting}}
pub use Rattle.rete_net.specs.Dropped.{AreDue, ForgotBelow, HasNoOld, dropped_before, AreDropped, AreOld, HaveForgotten, dropped_at, with_rows}
pub use Rattle.rete_net.specs.{Sources.{AreSources, IsSourced}, Fans.{AreFans, member_at, shown_nodes, Member, showing, AreFanRowsTurned, IsLaidAs, seat_at}}
pub use Rattle.rete_net.specs.Fans.{IsHalf, IsLeft, half_at, with_fans, IsOfSeat, half_of, in_fan, member_of, given_span, half_in, AreNamesTurnedAt, IsFanLike}
pub use Rattle.rete_net.specs.Fans.{with_member, AreEmpty, IsHalfTurned, IsInSpan, IsSeat, given_seat, shown, AreWoken, AreLoneFound, AreFansBelow}
pub use Rattle.rete_net.specs.{Forgetting.{AreNotNeeded, CountsNone, snapshot_without, IsUnmissed}, Indexes.{is_listed, IsNodeFound, IsIndexOf}}
pub use Rattle.rete_net.specs.{Indexes.{is_changed_by_clock, is_in, items_of, type_of, IsAskedWhereMeant, IsInRange}, Loading.{IsLoadable, AreLadenRows}}
pub use Rattle.rete_net.specs.{Loading.{IsThere, coming}, Loads.{is_fact_of_type, grouped_facts_at, AreLoaded, NodeLoad, is_extra_under, IsNodeLoad, IsStuck}}
pub use Rattle.rete_net.specs.{Loads.{comes_before, HasRowsOf, given_facts}, Nets.{NetStands, NodesStand, HaveSameFronts, AreBetween, clean_rows, change_of}}
pub use Rattle.{rete_net.specs.{Nets.{IsChange}, Owners.{AreOwnedSoFar, AreNodeOwners, IsOwned, PutsOwner, owner_cmp}}, fan_join.specs.Reaching.{has_place}}
pub use Rattle.rete_net.specs.{Quiet.{AreQuiet, IsNodeQuiet, StaysAt}, Schedules.{AreScheduled, IsScheduled, IsLeftAlone, IsStillAt, IsGateStill, IsUndue}}
pub use Rattle.rete_net.specs.{Schedules.{entry_point_of}, Seating.{AreGrowing, GrowsTo, IsFanPut, IsNewFan}, Shapes.{before, IsNetOf, IsRuleFront, EndsRule}}
pub use Rattle.rete_net.specs.{Shapes.{CountsFronts, IsShaped, StandOnce}, Standing.{IsFresh, NetNodeStands, StandsIn, taking, IsFound}, Steps.{no_change}}
pub use Rattle.rete_net.specs.Steps.{NodeStep, delta_at, NetStep, empty_row_comes, changes_from, change_at, IsNodeTurn, left_delta, SteppedBelow, TurnStep}
pub use Rattle.rete_net.specs.{Timers.{IsSet, IsFrom}, Walks.{IsWired, IsReplaced, HasAnswered}, declared.{answered.Answered.{Answered}, build.Origin.{Origin}}}
pub use Rattle.rete_net.specs.declared.{build.Owner.{Owner}, changes.RuleChange.{RuleChange}, fans.{Fan.{Fan}, Fans.{Fans}, Seat.{Seat}, Span.{Span}}}
pub use Rattle.rete_net.specs.declared.{forgetting.RuleRows.{RuleRows}, index.Index.{Index}, lists.Lists.{Lists}, load.LoadFault.TheVariants.{NoRow}}
pub use Rattle.rete_net.specs.declared.{net.Rete.{Rete}, node.NetNode.{NetNode}, ranges.FieldRanges.{FieldRanges}, schedule.EntryTimers.{EntryTimers}}
pub use Rattle.{rete_net.specs.declared.{schedule.Schedule.{Schedule}, timers.Timers.{Timers}}, row_change.specs.Changes.{IsDifference, changes_nothing}}
pub use Rattle.{row_change.specs.Changes.{LeadsRows, are_none}, row_delta.specs.{NameOrder.{name_cmp}, RowOrder.{same_equiv, row_exact, row_total}, Rows.{has}}}
pub use Rattle.row_delta.specs.{Rows.{InOrder, row_cmp}, declared.{delta.Delta.{Delta}, extra.Extra.{Extra}, row.{Named.{Named}, Row.{Row}}}}
pub use Rattle.{not_node.specs.Doors.{blocker_tallies, blocking_pattern}, rule_model.proofs.{Floors.{floor_on, same_floor}, Listed.{in_left, in_right, of_map}}}
pub use Rattle.rule_model.{proofs.{Named.{of_filter}, Once.{one_fact}, Order.{in_filter, passed}, RuleOf.{in_place}}, specs.Candidates.{fits, is_candidate}}
pub use Rattle.rule_model.specs.{Candidates.{is_inside, is_present, is_within, candidates, is_behind}, Distinct.{HaveDistinctTags}, Lent.{lent, bound_in}}
pub use Rattle.rule_model.specs.{Moments.{IsAt, snapshot_at}, Rows.{pattern_of, rows, result_of}, Simple.{is_whole, is_length, is_observed_in, observes}}
pub use Rattle.rule_model.specs.{Snapshots.{Snapshot, floor}, Tests.{tests_hold, results_hold, compare_holds, compares_hold}, Tuples.{name_of, unbound}}
pub use Rattle.rule_model.specs.{Tuples.{Bindings}, Types.{expiry_of, is_event}, declared.condition.Condition.{Condition, TheVariants.{Plain, Existing}}}
pub use Rattle.rule_model.specs.declared.condition.{Condition.TheVariants.{Folded, Negated}, Pattern.{Pattern}, WindowTag.{WindowTag, TheVariants.{Length}}}
pub use Rattle.rule_model.specs.declared.{condition.WindowTag.TheVariants.{Time, Whole}, moment.Moment.{Moment}, program.{Program.{Program}, Rule.{Rule}}}
pub use Rattle.rule_world.{proofs.Kept.{filter_swap, filter_same}, specs.Programs.{IsRunnable, has_window, has_conditions, has_windows}}
pub use Rattle.counting_node.specs.{Doors.{tallied_pattern}, Counts.{counts_blockers, counts_witnesses}, Extras.{extra_for, rows_of_extras}, Gathers.{gathers}}
pub use Rattle.{counting_node.specs.Laws.{ForgottenStay, StandsCounted, all_passing}, window_gate.proofs.Insides.{differ_after, inside_whole}}
pub use Rattle.window_gate.specs.Standing.{StandsForArrivals, KeepsWindow, window_kept, KeepsTime, TagsDiffer, window_of, with_tag, HoldsArrivals}
pub use Rattle.window_gate.specs.{Windows.{Arrival, rows_inside, named_of, has_tag, inside, single}, declared.gate.{Gate.{Gate}, Kept.{Kept}}}
pub use mathlib.Core.Path.{fun_ext}
