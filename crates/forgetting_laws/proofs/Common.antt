-- Names from modules that two proofs and more cite, passed on from one place. Declares nothing.
pub use Rattle.std.proofs.Common.{Bool, ap, false, not, refl, sym, true, ◌∙◌, ◌≡◌, None, arith, ℕ, Option, Some, cond, ℤ, ◌&&◌, ◌||◌, inl, inr, subst, ◌==◌}
pub use Rattle.std.proofs.{Common.{List, ◌≤ℤ◌, [], ◌+ℤ◌, ◌<◌, ◌∷◌, ◌++◌}, lemmas.{Bool.Decides.{Decides-eqb, nat_tests}, Int.{ints}, Map.Views.{tells_apart}}}
pub use Rattle.std.specs.{List.{list_any, filter, list_all}, Ordering.{eq_by_cmp}, Prelude.{is_some, option_and_then, int_le, option_map, pos, map, slice_get}}
pub use Rattle.{agenda.specs.Agendas.{names_tag}, due_queue.specs.Timers.{has_come}, forgetting_laws.specs.Sights.{only, is_kept_tag, is_needed, each_tag}}
pub use Rattle.forgetting_laws.specs.Sights.{Lives, ends_of, is_kept_fact, some_tag, TagWorld, is_clean, is_forgotten_tag, IsSoundSight, end_of_life, ends_by}
pub use Rattle.forgetting_laws.specs.{Sights.{kept, EndLaw, Holding, HoldsKept}, Steps.{brought, changed, IsStep, KeptBeforeStep, ComeClean, DropFiredLaw}}
pub use Rattle.forgetting_laws.specs.{Steps.{Forgets, HasLeft, KeptBeforeLaw, MatchesLeftLaw, EmptySessionLaw, TwoPhaseLaw}, Tables.{ExpiredEndless}}
pub use Rattle.forgetting_laws.specs.{Tables.{ModifyEndless, NextClean, PlainEndless, StepComesClean, WorldFireKept, WorldStepKept}, WorldSights.{fact_at}}
pub use Rattle.{forgetting_laws.specs.WorldSights.{sight_of, comes, goes, RetractsOne, SightLaw, WorldFireLaw, WorldStepLaw}, fx_base.specs.Lists.{In}}
pub use Rattle.{fx_base.specs.declared.{fact.Fact.{Fact}, value.Value.{Value}}, kept_meaning.proofs.Versions.{forgotten_fact, lost}}
pub use Rattle.{join_memory.specs.Standing.{clean}, retention.proofs.Calls.{later_law, same_covered, same_watched, hold_law, new_law, release_law}}
pub use Rattle.retention.specs.{Retentions.{lingers, is_named}, Watching.{Covers, without, Watches, is_old, with_end}}
pub use Rattle.{row_delta.specs.declared.row.Named.{Named}, rule_model.proofs.{Exact.{match_exact}, Firsts.{or_split}, Named.{named_of, of_filter}}}
pub use Rattle.rule_model.{proofs.{Once.{one_fact}, RuleOf.{rule_of, has_in}}, specs.{Candidates.{is_present}, Distinct.{HaveDistinctTags}}}
pub use Rattle.rule_model.specs.{MatchOrders.{match_equiv}, Matches.{has_match, matches, match_cmp}, Tuples.{name_of}, declared.life.LifeTable.{LifeTable}}
pub use Rattle.{rule_model.specs.declared.{matched.Match.{Match}, program.Program.{Program}, step.Step.{Step}}, rule_world.proofs.Faultless.{modified_plain}}
pub use Rattle.rule_world.proofs.{Faultless.{moved_forward}, Found.{fact_with, found_in, plain_present}, Fresh.{AllBelow, below_of, has_number}}
pub use Rattle.rule_world.proofs.{Keeping.{kept_ordered, kept_later, kept_new, kept_numbers, kept_revised, kept_without, others}, Pending.{has_pending}}
pub use Rattle.rule_world.{proofs.Pending.{has_still}, specs.{Lawful.{IsOrdered}, Worlds.{World, present, snapshot, has_id, revised, found, only_present}}}
pub use Rattle.rule_world.specs.Worlds.{world_at_clock, marked, modify_fault, new_fact, pending, revised_in, settled, with_begin, with_new, with_promise}
pub use Rattle.rule_world.specs.Worlds.{with_retracted, with_revised}
