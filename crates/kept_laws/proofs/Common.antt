-- Names from modules that two proofs and more cite, passed on from one place. Declares nothing.
pub use Rattle.std.proofs.Common.{Bool, List, None, Option, Some, [], ap, arith, false, if◌then◌else◌, inl, inr, not, refl, subst, suc, sym, true, zero, ℕ, ℤ}
pub use Rattle.std.proofs.{Common.{◌&&◌, ◌+ℤ◌, ◌-ℤ◌, ◌<ℤ◌, ◌==◌, ◌||◌, ◌↔◌, ◌∙◌, ◌∷◌, ◌≡◌, ◌≤ℤ◌}, lemmas.Bool.{and_parts, eqb-true, false_from_ne_true}}
pub use Rattle.{std.{proofs.lemmas.Bool.{not-true, or_left, or_right}, specs.Prelude.{int_le, int_lt, slice_get, take}}, condition_rows.proofs.Ends.{IsMade}}
pub use Rattle.condition_rows.proofs.{Ends.{in_name, name_in, row_of_tuple, tuple_of_row}, Holding.{held_fact, joins_of_tuple, version_in, version_of}}
pub use Rattle.condition_rows.{proofs.Joined.{candidate_named, candidate_of, made_facts}, specs.Sets.{candidates_of, held}}
pub use Rattle.fx_base.{proofs.Sequences.{In-place, list_any-In, list_any-from, list_any-none}, specs.{Lists.{In}, declared.fact.Fact.{Fact}}}
pub use Rattle.{join_tests.specs.Joins.{Look, joins, version_at}, kept_meaning.specs.Kept.{is_alive, is_forgotten, is_kept, is_lost, is_pending_named}}
pub use Rattle.{kept_meaning.specs.Kept.{kept_facts}, kept_laws.specs.Steps.{IsLawfulStep, RowComes, behind}, join_memory.specs.Joined.{has_name}}
pub use Rattle.{row_delta.specs.declared.row.Named.{Named}, life_meaning.proofs.Limits.{lives_below}, life_laws.proofs.Matched.{operators_of, same_fact}}
pub use Rattle.{life_meaning.specs.{Tables.{AreSafe, IsKept, endless, living, named, plain, unexpired}, Lifetimes.{IsLife}}, life_laws.specs.Keeping.{Comes}}
pub use Rattle.{life_meaning.specs.Reach.{finite, infinite}, rule_model.proofs.{Firsts.{or_split}, Listed.{in_left, in_map, listed_makes, makes_listed}}}
pub use Rattle.rule_model.{proofs.{Listed.{of_map}, Named.{of_filter}, Order.{in_filter, passed}}, specs.Candidates.{candidates, is_candidate, is_inside}}
pub use Rattle.rule_model.specs.{Candidates.{is_present, is_within, passes}, Rows.{HaveOperators, binds, pattern_of}, Snapshots.{Snapshot}, Tests.{tests_hold}}
pub use Rattle.rule_model.specs.{Tuples.{Tuple, empty_tuple, name_of, row_of, unbound}, Types.{expiry_of, is_event, is_observed}}
pub use Rattle.rule_model.specs.declared.{condition.{Condition.{Condition}, WindowTag.{WindowTag, TheVariants.{Length, Time, Whole}}}, life.Life.{Life}}
pub use Rattle.rule_model.specs.declared.{life.{Life.TheVariants.{Explicit, Finite, Infinite, Plain}, LifeTable.{LifeTable}}, matched.Match.{Match}}
pub use Rattle.{rule_model.specs.declared.{program.{Program.{Program}, Rule.{Rule}}, step.Step.{Step}}, rule_world.proofs.Keeping.{was_present}}
pub use Rattle.rule_world.{proofs.Steps.{move_numbered, numbered, stays, step_in_order}, specs.{Lawful.{IsLawful, IsOrdered}, Worlds.{World, found, has_id}}}
pub use Rattle.rule_world.specs.Worlds.{marked, moved, new_fact, pending, revised, revised_in, snapshot}
