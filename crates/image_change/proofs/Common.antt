-- Names from modules that two proofs and more cite, passed on from one place. Declares nothing.
pub use Rattle.{checkpoint.specs.declared.image.Image.{Image}, condition_rows.specs.Sets.{rows_of}, fx_base.proofs.Sequences.{list_any-from}}
pub use Rattle.{fx_base.{proofs.Tests.{same_test}, specs.{Lists.{In}, declared.fact.Fact.{Fact}}}, image_change.specs.Images.{IsChangedImage}}
pub use Rattle.image_laws.specs.{Fitting.{IsLadenMatch}, Images.{AreMoments, IsImageOf, has_fired, match_fired, snapshot_of}}
pub use Rattle.{join_tests.specs.Joins.{version_at}, kept_meaning.{proofs.Versions.{forgotten_fact}, specs.Kept.{is_alive}}}
pub use Rattle.laden_rows.specs.{Extras.{AreExtras, IsFirstWith, lost_partners, values_gathered}, Laden.{AreOwners, IsKeptOf}}
pub use Rattle.{join_memory.specs.Standing.{clean}, row_delta.specs.declared.row.{Named.{Named}, Row.{Row}}, rule_change.proofs.Carrying.{life_stays}}
pub use Rattle.rule_change.{proofs.Changing.{filtered}, specs.{Alike.{as_old}, Changed.{carried, is_marked, moved_condition, moved_fact, new_type, was_fired}}}
pub use Rattle.{life_meaning.specs.Tables.{AreSafe, IsKept, IsSafeTable}, rule_model.proofs.{Listed.{in_map, of_map}, RuleOf.{rule_of}}}
pub use Rattle.rule_model.specs.{Candidates.{fits}, Distinct.{HaveDistinctTags}, Matches.{has_match, matches}, Rows.{binds, pattern_of}, Tuples.{name_of}}
pub use Rattle.rule_model.specs.declared.{condition.{Condition.{Condition, TheVariants.{Existing, Folded, Negated}}, Pattern.{Pattern}}, life.Life.{Life}}
pub use Rattle.rule_model.specs.declared.{life.{Life.TheVariants.{Explicit, Finite, Infinite}, LifeTable.{LifeTable}}, matched.Match.{Match}}
pub use Rattle.{rule_model.specs.declared.program.{Program.{Program}, Rule.{Rule}}, rule_world.{proofs.Pending.{has_pending}, specs.Lawful.{IsLawful}}}
pub use Rattle.{rule_world.specs.Worlds.{World, pending, snapshot}, std.proofs.Common.{Bool, List, None, Option, Some, [], ap, ap₂, arith, cond, false, inl}}
pub use Rattle.std.proofs.Common.{inr, map, not, option_map, refl, subst, suc, sym, true, zero, ℕ, ℤ, ◌&&◌, ◌<◌, ◌==◌, ◌↔◌, ◌∙◌, ◌∷◌, ◌≡◌}
pub use Rattle.std.{proofs.lemmas.Bool.{and_from, and_parts, false_from_ne_true}, specs.{Option.{option_and_then}, Prelude.{length, slice_get, take}}}
pub use mathlib.Core.Path.{fun_ext}
