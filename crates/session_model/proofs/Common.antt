-- Names from modules that two proofs and more cite, passed on from one place. Declares nothing.
pub use Rattle.std.proofs.Common.{◌≡◌, ℕ, refl, sym, true, subst, ◌∙◌, List, Bool, ap, false, None, Some, arith, [], Option, ◌∷◌, inl, not, inr, ℤ, ◌&&◌, ◌<◌}
pub use Rattle.std.proofs.Common.{◌==◌, cond, ◌||◌, ◌≤◌, length, ◌≤ℤ◌, nat_eq, slice_get, ◌++◌, if◌then◌else◌, suc, ◌⊎◌, Result, pos, zero, is_some, ◌+◌, Err}
pub use Rattle.std.proofs.Common.{Ok, filter_map, option_map, map, nat_lt, ◌+ℤ◌, append_assoc, ◌-ℤ◌, ◌^◌, Bor, FitsSigned, get_or, int_lt, lt-ltb, negsuc, of_z}
pub use Rattle.std.proofs.{Common.{to_z, to_z-of_z, w64, ◌<ℤ◌, ◌↔◌}, Math.{Bool.{or-false, and-true, and-not_self}, Logic.{∥∥₁_elim}}}
pub use Rattle.std.proofs.lemmas.{Bool.Decides.{nat_tests}, Int.{ints}, List.{append-nil, length-map, map-append, take_all, take_more, Folds.{list_any-append}}}
pub use Rattle.std.proofs.lemmas.{List.Folds.{list_all-append}, Map.Views.{tells_apart, exact_unsigned_eq}, Option.{slice_get_within}}
pub use Rattle.std.specs.{Cmp.{nat_cmp_total}, FinMap.{get-insert, get-empty, get-remove, get-retain_keys, nat_cmp-IsAntisymmetric, same_map}, List.{list_any}}
pub use Rattle.std.specs.{List.{AllByRecursion, filter, cons_option, find, list_all}, Option.{option_and_then, option_to_list}, Ordering.{nat_cmp, eq_by_cmp}}
pub use Rattle.std.specs.{Ordering.{is_eq, ordering_then}, Prelude.{OnOk, int_le, take, IfNone, IfSome, IsErrAnd, slice_index_or}}
pub use Rattle.{std.specs.declared.cmp.Ordering.TheVariants.{Less, Equal}, agenda.specs.Agendas.{Marks, names_tag, IsChanged}}
pub use Rattle.change_resolve.{proofs.{Fitting.{asked_fits}, Places.{entry_within, stands, type_stands}}, specs.Changes.{entry_asked, fields_step, insert_step}}
pub use Rattle.change_resolve.specs.Changes.{modify_step, type_named, change_step, new_step, promise_step, retract_step, sets_step, values_step}
pub use Rattle.{checkpoint.specs.declared.image.{FiredMatch.{FiredMatch}, Image.{Image}}, condition_rows.proofs.Ends.{tuple_of_row, has_in, in_has}}
pub use Rattle.condition_rows.proofs.{Holding.{held_fact, joins_of_tuple, held_all, version_in}, Joined.{candidate_of, candidate_named, made_facts}}
pub use Rattle.{condition_rows.specs.{Looks.{HasAllOf, empty_snapshot}, Sets.{rows_of, candidates_of, held, has_partner}}, due_queue.specs.Timers.{Timers}}
pub use Rattle.{due_queue.specs.Timers.{has_come, TakesDue, is_due, due_cmp, moment_of}, engine.specs.Answers.{FiringAnswers}}
pub use Rattle.answer_lines.specs.declared.lines.{Fired.TheVariants.{No, Yes}, Detail.{Detail}, OutLine.{OutLine, TheVariants.{Fault}}}
pub use Rattle.fact_store.{proofs.{Members.{from_list, from_map, tags_rise}, Stored.{tied, itself}}, specs.Held.{HeldFacts, facts_of, tag_of, IsNewest}}
pub use Rattle.{fact_store.specs.Held.{CountsType, HoldsNone, is_held_with_id, is_of}, forgetting_laws.proofs.Agreeing.{same_kept, expired_endless}}
pub use Rattle.forgetting_laws.proofs.{Agreeing.{modify_endless, plain_endless, same_clean}, Before.{pending_kept, chosen}, Closing.{world_fire_kept}}
pub use Rattle.forgetting_laws.proofs.{Closing.{world_step_kept}, Covering.{later_covers, endless_covers, retract_covers}, Naming.{clean_is, some_in}}
pub use Rattle.forgetting_laws.proofs.{Naming.{any_alike, witness}, Seeing.{own_at, sight_law, fact_in, at_filter, named_present}, Stepping.{drop_law}}
pub use Rattle.forgetting_laws.{proofs.Stepping.{start_law}, specs.Sights.{ends_by, ends_of, only, is_kept_tag, each_tag, Lives, TagWorld, is_kept_fact}}
pub use Rattle.forgetting_laws.specs.{Sights.{is_needed, is_clean, HoldsKept, end_of_life, some_tag}, Steps.{HasLeft, changed, brought, TakesChanges}}
pub use Rattle.{forgetting_laws.specs.WorldSights.{sight_of, comes, goes, fact_at}, fx_base.specs.{Lists.{In, EachOnce}, declared.fact.Fact.{Fact}}}
pub use Rattle.fx_base.specs.declared.{ids.{EntryId.{EntryId}, FactId.{FactId}, Tag.{Tag}, TypeId.{TypeId}}, times.Times.{Times}, value.Value.{Value}}
pub use Rattle.{image_fitting.specs.Plain.{FitsPlainly, FitsByRows}, image_laws.{proofs.Imaged.{image_kept}, specs.Images.{snapshot_of, match_fired}}}
pub use Rattle.{image_laws.specs.Images.{IsImageOf, has_fired, AreMoments}, rule_model.specs.Distinct.{tag_cmp, HaveDistinctTags, HaveDistinctIds}}
pub use Rattle.{laden_rows.specs.Laden.{AreOwners, IsKeptOf, extra_at, laden_gives, laden_line, laden_with}, join_tests.specs.Joins.{joins, Look}}
pub use Rattle.{kept_meaning.proofs.Decided.{kept_listed, kept_inside, not_alive, lost_event}, kept_laws.proofs.Staying.{there_same}}
pub use Rattle.kept_meaning.{proofs.Versions.{forgotten_fact, lost, tags_behind}, specs.Kept.{is_forgotten, is_alive, kept_facts}}
pub use Rattle.{kept_laws.{proofs.Windows.{in_no_window}, specs.Steps.{IsLawfulStep, RowComes}}, join_memory.specs.Joined.{has_name, joined}}
pub use Rattle.{join_memory.specs.Standing.{clean, cleaned, either, no_names}, pattern_gate.specs.Moves.{IsOrderly, MovesSnapshot, shares_tag}}
pub use Rattle.rete_net.{proofs.Cleaning.{has_clean}, specs.{Doors.{IsNetwork}, Dropped.{rows_for, AreDropped, AreListed}, Forgetting.{AreNotNeeded}}}
pub use Rattle.rete_net.specs.{Forgetting.{CountsNone, IsUnmissed, snapshot_without}, Loading.{AreLadenRows, IsBehind, IsLoadable, IsThere, AreOutsideOfTime}}
pub use Rattle.rete_net.specs.{Loading.{coming}, Nets.{NetStands, clean_rows, change_of, AreBetween, IsChange}, declared.changes.RuleChange.{RuleChange}}
pub use Rattle.{rete_net.specs.declared.{forgetting.RuleRows.{RuleRows}, net.Rete.{Rete}}, retention.{proofs.Past.{past_law}, specs.Retentions.{lingers}}}
pub use Rattle.retention.specs.{Retentions.{is_named, PassesLives, has_listed_tag, is_tag_among}, Watching.{Covers, Ends, is_old, Watches}}
pub use Rattle.{retention.specs.declared.retention.Retention.{Retention}, row_delta.specs.{RowOrder.{row_exact, same_equiv}, Rows.{has, row_cmp}}}
pub use Rattle.{row_delta.specs.declared.{delta.Delta.{Delta}, extra.Extra.{Extra}, row.{Named.{Named}, Row.{Row}}}, life_laws.proofs.Flagged.{flagged}}
pub use Rattle.{life_meaning.specs.Tables.{IsKept, AreSafe}, rule_model.proofs.{Exact.{fire_exact, match_exact, match_parts}, Firsts.{or_split, first_in}}}
pub use Rattle.rule_model.proofs.{Firsts.{first_alike}, Floors.{floor_on}, Listed.{of_map, in_left, in_map, in_right}, Named.{of_filter, AllOf, made_of}}
pub use Rattle.rule_model.proofs.{Named.{named_of}, Once.{one_fact, once_filter}, Order.{passed, in_filter, Same, rows_over, same_length, same_values}}
pub use Rattle.rule_model.{proofs.RuleOf.{in_place, rule_of, IsMatchOf}, specs.Candidates.{is_present, is_candidate, candidates, fits, is_within, count_behind}}
pub use Rattle.rule_model.specs.{Candidates.{is_behind, is_inside}, First.{first}, Lent.{Holds, bound_in, named_at}, MatchOrders.{fire_total, match_equiv}}
pub use Rattle.rule_model.specs.{Matches.{has_match, matches, match_cmp, saliences, fire_cmp, match_of, matches_of}, Moments.{moment_in, reached_in}}
pub use Rattle.rule_model.specs.{Planned.{step_of, id_at, sets_of, type_or_first}, Rows.{rows, pattern_of, argument}, Snapshots.{Reached, Snapshot}}
pub use Rattle.rule_model.specs.{Snapshots.{nothing_reached, floor_by}, Tuples.{name_of, Bindings, empty_tuple, row_of, unbound}, Types.{is_event}}
pub use Rattle.rule_model.specs.{Types.{is_reference, expiry_of, is_observed, is_event_type, event_types, lateness_of}, declared.action.Action.{Action}}
pub use Rattle.rule_model.specs.declared.{condition.{Condition.{Condition, TheVariants.{Existing, Folded, Negated}}, Pattern.{Pattern}}, life.Life.{Life}}
pub use Rattle.rule_model.specs.declared.{life.{Life.TheVariants.{Finite, Infinite, Explicit, Plain}, LifeTable.{LifeTable}}, matched.Match.{Match}}
pub use Rattle.rule_model.specs.declared.{moment.Moment.{Moment}, program.{Program.{Program}, Rule.{Rule}, TypeInfo.{TypeInfo}}, step.Step.{Step}}
pub use Rattle.{rule_model.specs.declared.step.Step.TheVariants.{Modify, Retract, At, Insert, Promise, Advance, Begin}, rule_world.proofs.Acting.{all_of}}
pub use Rattle.rule_world.proofs.{Acting.{steps_fit}, Faultless.{event_by, inserted, promised_forward}, Found.{found_in, found_fits, found_there}}
pub use Rattle.rule_world.proofs.{Fresh.{below_of, distinct_filtered, AllBelow, has_number, distinct_more, revise}, Ids.{one_id, id_of, ids_filtered}}
pub use Rattle.rule_world.proofs.Keeping.{without_fact, kept_lawful, others, with_numbers, without, kept_later, kept_new, kept_numbers, kept_revised}
pub use Rattle.rule_world.proofs.{Keeping.{kept_without}, Kept.{kept_matches, kept_rows, filter_same, filter_within, kept_settled}, Lawfuls.{firing_lawful}}
pub use Rattle.rule_world.proofs.{Lawfuls.{step_lawful, empty_lawful}, Pending.{has_pending, by_fire, first_is_pending}, Staying.{same_stays, Stays, stays_on}}
pub use Rattle.rule_world.{proofs.Staying.{fits_later, step_stays, type_stays}, specs.Events.{end_of_presence, end_by, most_millis, times_of, clock_fault}}
pub use Rattle.rule_world.specs.{Events.{new_fault, promise_fault}, Kinds.{sets_fit, set_fits, values_fit}, Lawful.{IsLawful, IsOrdered}, Programs.{IsRunnable}}
pub use Rattle.rule_world.specs.Worlds.{World, only_present, present, step_fault, snapshot, is_of_type, settled, found, pending, stepped, world_at_clock}
pub use Rattle.rule_world.specs.Worlds.{with_new, with_revised, has_id, marked, modify_fault, retract_fault, revised, fact_of, first_pending, promise_with}
pub use Rattle.rule_world.specs.Worlds.{revised_in, with_retracted, empty_world, last_start_with, moved, new_fact, with_begin, with_promise}
pub use Rattle.rule_world.specs.declared.code.Code.{Code, TheVariants.{ReferenceFixed, Absent, EventFixed, EventObserved, BadFields, ClockBack, ClockEnd}}
pub use Rattle.{script_read.specs.declared.{asked.Change.{Change}, given.Given.{Given}}, session_model.specs.Counts.{AreCounts, facts_of_type}}
pub use Rattle.session_model.specs.Following.{LeadsStep, instant_of, LeadsOn, NeverFalls, HasAtHand, Instant, IsReady, facts_at, ComesLast}
pub use Rattle.session_model.specs.Gives.{version_of, actions_of, does, fire_line, fires_with, step_lines, step_or_overflow, tries_with, wanted, does_all}
pub use Rattle.session_model.specs.{Gives.{fires_match, new_line, refused, tries}, Leading.{AllFit, FitsWorld, IsOfPlain, StandsAfter, WritesFor, AllWantKnown}}
pub use Rattle.session_model.specs.{Leading.{StayKnown, Suits, Tries, WantsKnown, Writes, has_known_places}, Places.{newest, IsNewestTag, IsSafe, held_at}}
pub use Rattle.session_model.specs.{Places.{planned, insert_fault_in, planned_for}, Refreshed.{over, IsRefreshed, matches_by, only_in, rows_at, no_rule_rows}}
pub use Rattle.session_model.specs.Restoring.{AreMarked, stored, AreHeld, is_laden, NoneGo, comes_by, has_marked, laden_by, AreStorable, IsMatched, AreMarking}
pub use Rattle.session_model.specs.{Restoring.{HasTimes, IsRestored, all_held, at_hand}, Standing.{Contents, Standing, Runs, reached_of, with_facts, Mirrors}}
pub use Rattle.session_model.specs.Standing.{Awaits, holding, expiry_at, Course, AreForgotten, Whole, reached_by, AreOfRules, ReachesNoMore, Seen, IsSound}
pub use Rattle.session_model.specs.{Waiting.{fact_left_at, HaveOwnTags, with_timer, without_timer}, declared.memory.Memory.{Memory}}
pub use Rattle.session_model.specs.declared.setting.Setting.{Setting}
pub use mathlib.Core.Path.{fun_ext}
