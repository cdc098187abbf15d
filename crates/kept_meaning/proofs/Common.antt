-- Names from modules that two proofs and more cite, passed on from one place. Declares nothing.
pub use Rattle.std.proofs.{Common.{None, Option, Some, ap, false, inl, inr, not, refl, sym, true, ℤ, ◌+ℤ◌, ◌↔◌, ◌∙◌, ◌≡◌}, lemmas.Bool.{not-true, or_left}}
pub use Rattle.{std.{proofs.lemmas.Bool.{or_right}, specs.Prelude.{slice_get}}, condition_rows.proofs.{Ends.{in_name, name_in}, Holding.{held_fact}}}
pub use Rattle.{condition_rows.{proofs.Holding.{version_in, version_of}, specs.Sets.{held}}, fx_base.proofs.Sequences.{list_any-In, list_any-from}}
pub use Rattle.{fx_base.specs.{Lists.{In}, declared.fact.Fact.{Fact}}, join_tests.specs.Joins.{version_at}, kept_meaning.specs.Kept.{is_alive, is_kept}}
pub use Rattle.{kept_meaning.specs.Kept.{is_lost, is_pending_named, kept_facts}, join_memory.specs.Joined.{has_name}}
pub use Rattle.{row_delta.specs.declared.row.Named.{Named}, life_meaning.specs.Tables.{AreSafe, IsKept, endless, living, named, plain, unexpired}}
pub use Rattle.rule_model.{proofs.{Firsts.{or_split}, Named.{of_filter}, Order.{in_filter, passed}}, specs.{Tuples.{name_of}, Types.{expiry_of, is_event}}}
pub use Rattle.rule_model.specs.declared.{life.{Life.{Life, TheVariants.{Explicit, Finite, Infinite, Plain}}, LifeTable.{LifeTable}}, matched.Match.{Match}}
pub use Rattle.{rule_model.specs.declared.{program.Program.{Program}, step.Step.{Step}}, rule_world.proofs.Steps.{move_numbered, numbered}}
pub use Rattle.rule_world.specs.{Lawful.{IsOrdered}, Worlds.{World, moved, pending, snapshot}}
