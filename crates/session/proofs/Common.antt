-- Names from modules that two proofs and more cite, passed on from one place. Declares nothing.
pub use Rattle.std.proofs.Common.{◌≡◌, ◌∙◌, ap, subst, sym, List, refl, w64, of_z, to_z, Some, [], length, true, ◌++◌, None, arith, take, ◌==◌, rules}
pub use Rattle.std.proofs.Common.{to_z-of_z, ℕ, ◌||◌, drop, ◌∷◌, false, ℤ, ◌&&◌, ◌<◌, Err, filter_map, option_map, slice_get, ◌+◌, Bool, not, ◌≤◌, FitsSigned}
pub use Rattle.std.proofs.{Common.{Ok, Option, Result, SFits, inl, pos, ◌+ℤ◌, ◌^◌, ◌≤ℤ◌, inr, is_some, nat_eq, nat_lt, ◌-ℤ◌}, Math.Logic.{∥∥₁_map}}
pub use Rattle.std.{proofs.lemmas.{Grind.{merely}, List.{take_all, take_more}, Result.{IfOk-weaker}}, specs.List.{list_any, Sorted.{IsStrictlySortedBy}}}
pub use Rattle.{std.specs.{Ordering.{eq_by_cmp, nat_cmp}, Prelude.{IfOk, if◌then◌else◌}}, agenda.specs.Agendas.{Marks, names_tag}}
pub use Rattle.{checkpoint.specs.declared.image.{FiredMatch.{FiredMatch}, Image.{Image}}, engine.specs.Known.{are_known}, fact_store.specs.Held.{HeldFacts}}
pub use Rattle.{fact_store.specs.Held.{facts_of}, forgetting_laws.specs.Steps.{HasLeft}, fx_base.specs.{Lists.{In}, declared.fact.Fact.{Fact}}}
pub use Rattle.{fx_base.specs.declared.ids.TypeId.{TypeId}, image_fitting.specs.Plain.{FitsByRows, FitsPlainly}, image_laws.specs.Images.{match_fired}}
pub use Rattle.{image_laws.specs.Images.{IsImageOf}, join_memory.specs.Standing.{cleaned, no_names}, pattern_gate.specs.Moves.{IsOrderly}}
pub use Rattle.{rete_net.specs.{Nets.{AreBetween, NetStands, clean_rows}, declared.changes.RuleChange.{RuleChange}}, retention.specs.Retentions.{is_tag_among}}
pub use Rattle.{retention.specs.Retentions.{PassesLives, has_listed_tag, is_named}, row_delta.specs.{Rows.{has, row_cmp}, declared.extra.Extra.{Extra}}}
pub use Rattle.{row_delta.specs.declared.row.{Named.{Named}, Row.{Row}}, rule_model.specs.{Candidates.{is_present}, Lent.{lent}, Matches.{has_match}}}
pub use Rattle.rule_model.specs.{Matches.{match_cmp, saliences}, Snapshots.{Reached, nothing_reached}, Types.{event_types, is_event, is_event_type}}
pub use Rattle.rule_model.specs.{Types.{is_reference}, declared.{matched.Match.{Match}, program.{Program.{Program}, Rule.{Rule}, TypeInfo.{TypeInfo}}}}
pub use Rattle.{rule_model.specs.declared.step.Step.TheVariants.{At, Insert, Retract, Begin, Modify, Promise, Advance}, rule_world.specs.Events.{times_of}}
pub use Rattle.rule_world.specs.{Events.{clock_fault, end_of_presence, most_millis, new_fault, promise_fault}, Worlds.{stepped, is_of_type, marked}}
pub use Rattle.rule_world.specs.{Worlds.{modify_fault, World, empty_world, with_values}, declared.code.Code.{Code, TheVariants.{ReferenceFixed, Absent}}}
pub use Rattle.{rule_world.specs.declared.code.Code.TheVariants.{EventFixed, EventObserved}, session_model.proofs.Adding.{next_taken, AreAdding, added_pending}}
pub use Rattle.session_model.proofs.{Adding.{added_turn, in_at, none_added, none_yet, one_added, one_come, one_marked}, Beginning.{begin_awaits, begin_is_done}}
pub use Rattle.session_model.proofs.{Dropping.{all_ahead, drop_turn, nothing_ahead, place_within}, Faults.{clock_same, zero_clock, advance_fault}}
pub use Rattle.session_model.proofs.Faults.{advance_moves, at_fault, fresh_less, insert_fault, insert_line, moved_same, presented, promise_refused}
pub use Rattle.session_model.proofs.Faults.{retract_absent, retract_event, retract_fixed, retract_found, retract_observed, safe_again, safe_left, safe_less}
pub use Rattle.session_model.proofs.{Faults.{safe_new, safe_numbers}, Forgotten.{no_keys, safe_fewer, stands_less, stands_same}, Inserting.{held_again}}
pub use Rattle.session_model.proofs.{Inserting.{numbers_await, present_awaits, released_free}, Knowing.{followed_sound, new_no_more, one_more_known}}
pub use Rattle.session_model.proofs.Knowing.{asked_known, line_known, revision_known, new_known, retraction_known, merely_known, none_more, promise_no_more}
pub use Rattle.session_model.proofs.{Knowing.{standing_sound, top_known}, Leaving.{AreGone, no_tags, none_gone, turn_gone}, Looking.{modify_fault_is}}
pub use Rattle.session_model.proofs.{Looking.{retract_fault_is}, Matched.{residual_unfit, fired_refuses, image_safe, matched_is, merely_no_more, old_refuses}}
pub use Rattle.session_model.proofs.{Matched.{restored_is, row_refuses, some_key}, Members.{got_new}, Newest.{store_found, store_none}, Olds.{named_at}}
pub use Rattle.session_model.proofs.{Olds.{same_tags}, Passing.{none_left, later_awaits, later_leads, later_leads_on, quiet_refreshed, remaining, remaining_is}}
pub use Rattle.session_model.proofs.{Restored.{kept_in_order, storable}, Rules.{all_made, none_made, AreAhead, AreMade, change_turn, left_turn, names_in}}
pub use Rattle.session_model.proofs.{Rules.{none_ahead, rules_turn}, Sessions.{change_lines, change_stands, empty_stands, fires_none, fires_some, from_parts}}
pub use Rattle.session_model.proofs.{Sessions.{is_due}, Stands.{contents, has_start}, Storing.{ArePut, none_put, none_waits, one_more_held, one_put}}
pub use Rattle.session_model.proofs.Tried.{on_ok_weaker, tried_done, no_lines, on_ok, refused_lines, refused_tries, SoFar, all_done_lines, all_done_stands}
pub use Rattle.session_model.proofs.Tried.{done_lines, none_done, one_done, refused_stands, refused_writes, tried_stands, tried_writes}
pub use Rattle.session_model.specs.{Counts.{AreCounts}, Following.{instant_of, facts_at_clock, facts_at, instant_at}, Gives.{cells, does_all, fires_in}}
pub use Rattle.session_model.specs.{Gives.{gives_in}, Leading.{MovesSession, StayKnown, AllWantKnown, AllFit}, Places.{newest, IsNewestTag, planned}}
pub use Rattle.session_model.specs.{Refreshed.{IsRefreshed, no_rule_rows, over, rows_at}, Restoring.{comes_by, AreMarking, stored, AreHeld, AreStorable}}
pub use Rattle.session_model.specs.{Restoring.{IsMatched, IsRestored, NoneGo, all_held}, Saving.{IsSessionSaved, ArePadded}, Standing.{Contents, IsSound}}
pub use Rattle.session_model.specs.Standing.{Standing, Awaits, reached_of, AreOfRules, Course, ReachesNoMore, Runs, StaysSound, reached_by}
pub use Rattle.session_model.specs.declared.{memory.Memory.{Memory}, setting.Setting.{Setting}}
