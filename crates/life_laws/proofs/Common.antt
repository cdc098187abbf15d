-- Names from modules that two proofs and more cite, passed on from one place. Declares nothing.
pub use Rattle.std.proofs.Common.{ap, ◌≡◌, List, arith, refl, true, Some, [], sym, ℕ, ◌∷◌, false, subst, ℤ, ◌∙◌, Bool, ◌≤ℤ◌, Option, inl, inr, None, ◌+ℤ◌, suc}
pub use Rattle.std.proofs.{Common.{◌⊎◌, zero, ◌&&◌, ◌++◌, ◌==◌, cond, length, not, ◌+◌, ◌-ℤ◌, ◌<ℤ◌, if◌then◌else◌, ◌||◌, map, ◌<◌, pos}, lemmas.Int.{ints}}
pub use Rattle.std.{proofs.lemmas.{Int.{by_lt_z, clamps}, List.{append_assoc, length-append}}, specs.{List.{filter, list_all, list_any}, Prelude.{slice_get}}}
pub use Rattle.{std.specs.Prelude.{take}, fx_base.specs.{Lists.{In}, declared.{fact.Fact.{Fact}, times.Times.{Times}, value.Value.{Value}}}}
pub use Rattle.life_meaning.specs.Tables.{AreSafe, IsKept, endless, living, plain, unexpired, EndlessAreSafe, IsLifeOf, IsSafeLife, LivesAreSafe, named}
pub use Rattle.life_laws.specs.{Keeping.{KeptBefore, MatchNamesKept, TupleMeetsKept, TupleNamesKept}, Law.{Made, IsFlagged, KeepsTuple, OfPrefix, OfRule}}
pub use Rattle.life_meaning.specs.{Lifetimes.{IsLife, scope, Adds, LivesFor, of_event, of_fact, tail, tail_by}, Networks.{bindings, MeetsTests, Occurrence}}
pub use Rattle.{life_meaning.specs.Networks.{SolvesConditions, aside, bound, is_test_met, occurrence}, rule_model.specs.Rows.{binds, pattern_of, Makes}}
pub use Rattle.{rule_model.specs.Rows.{HaveOperators, result_of, rows}, life_meaning.specs.Reach.{finite, Placed, infinite, SolvesWith, Below, Limit, distance}}
pub use Rattle.{life_meaning.specs.Reach.{occurrence_of}, rule_model.proofs.Listed.{in_left, in_map, in_right, listed_row, of_map, row_listed}}
pub use Rattle.rule_model.{proofs.{Order.{passed, in_filter}, RuleOf.{in_place, has_in, rule_of}}, specs.Candidates.{is_inside, passing, is_candidate}}
pub use Rattle.rule_model.specs.{Candidates.{is_present, passes, candidates, fits, is_within}, Matches.{has_match, matches, match_of, rows_by_rule}}
pub use Rattle.rule_model.specs.{Maturity.{IsPossible, IsMature, of_none, of_past, of_plain, of_unbounded}, Simple.{is_whole, observes, observes_type}}
pub use Rattle.rule_model.specs.{Snapshots.{Snapshot, floor}, Tests.{times_hold, time_holds, time_holds_with, tests_hold}, Tuples.{Tuple, bound_by}}
pub use Rattle.rule_model.specs.{Tuples.{empty_tuple, name_of, row_of, unbound}, Types.{is_event, is_observed, is_reference, lateness_of, is_point, expiry_in}}
pub use Rattle.rule_model.specs.{Types.{expiry_of, is_event_type}, declared.condition.Condition.{Condition, TheVariants.{Existing, Folded, Negated, Plain}}}
pub use Rattle.rule_model.specs.declared.{condition.{Pattern.{Pattern}, WindowTag.{WindowTag, TheVariants.{Whole, Length, Time}}}, life.Life.{Life}}
pub use Rattle.rule_model.specs.declared.{life.{Life.TheVariants.{Explicit, Finite, Infinite}, LifeTable.{LifeTable}}, matched.Match.{Match}}
pub use Rattle.rule_model.specs.declared.{program.{Program.{Program}, Rule.{Rule}}, step.Step.{Step, TheVariants.{Advance, At, Begin, Insert, Modify, Promise}}}
pub use Rattle.{rule_model.specs.declared.{step.Step.TheVariants.{Retract}, test.TimeTest.{TimeTest}}, rule_world.proofs.Faultless.{IsStarted, event_by}}
pub use Rattle.rule_world.proofs.{Faultless.{inserted, modified_plain, moved_forward, point_by, started}, Found.{fact_with, found_there, plain_present}}
pub use Rattle.rule_world.{proofs.{Keeping.{was_present}, Steps.{stays}}, specs.{Lawful.{IsLawful, IsOrdered}, Programs.{IsRunnable, UseOperators, has_window}}}
pub use Rattle.rule_world.specs.{Programs.{has_windows, is_window}, Worlds.{World, snapshot, has_id, insert_fault, is_of_type, modify_fault, moved, new_fact}}
pub use Rattle.rule_world.specs.{Worlds.{retract_fault, found, pending, revised, revised_in, settled, still_fired}, declared.code.Code.TheVariants.{Absent}}
pub use Rattle.{rule_world.specs.declared.code.Code.TheVariants.{EventObserved, ReferenceFixed, EventFixed}, temporal_ops.specs.Possible.{IsEvent}}
