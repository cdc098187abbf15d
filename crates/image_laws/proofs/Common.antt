-- Names from modules that two proofs and more cite, passed on from one place. Declares nothing.
pub use Rattle.std.proofs.Common.{Bool, List, None, Option, Some, [], ap, arith, false, inl, inr, length, map, not, pos, refl, subst, suc, sym, true, ℕ, ℤ}
pub use Rattle.std.proofs.{Common.{◌&&◌, ◌<◌, ◌==◌, ◌^◌, ◌||◌, ◌↔◌, ◌∙◌, ◌∷◌, ◌≡◌, ◌≤ℤ◌, ◌≤◌}, lemmas.Bool.{and_from, and_parts, eqb-true, false_from_ne_true}}
pub use Rattle.std.{proofs.lemmas.{Bool.{not-false, not-true}, Cmp.{nat_cmp_total, on_total, then_total}}, specs.{Cmp.{IsTotalOrder}, Ordering.{int_cmp}}}
pub use Rattle.{std.specs.Prelude.{IsSorted, slice_get, take}, checkpoint.specs.declared.image.{FiredMatch.{FiredMatch}, Image.{Image}}}
pub use Rattle.{fx_base.specs.{Lists.{EachOnce, In}, declared.{fact.Fact.{Fact}, ids.Tag.{Tag}}}, image_laws.specs.Images.{AreMoments, IsImageOf, fired_cmp}}
pub use Rattle.{image_laws.specs.Images.{has_fired, match_fired, snapshot_of}, kept_meaning.proofs.Decided.{is_so, is_tested, kept_inside, not_alive}}
pub use Rattle.{kept_meaning.specs.Kept.{is_alive, is_forgotten, is_kept, is_pending_named}, laden_rows.proofs.Rows.{in_lost, laden_rows}}
pub use Rattle.{laden_rows.specs.{Extras.{IsExtraIn, extra_cmp}, Laden.{AreOwners, IsKeptOf, laden}}, row_delta.specs.declared.extra.Extra.{Extra}}
pub use Rattle.{life_meaning.specs.Tables.{AreSafe, IsKept, named}, rule_model.proofs.{Listed.{in_map, of_map}, Order.{Same, passed}, RuleOf.{has_in, in_has}}}
pub use Rattle.rule_model.proofs.{RuleOf.{rule_of}, Sorted.{below_each, sorted_marked, sorted_once, sorted_same, tag_total, tags_apart}}
pub use Rattle.rule_model.specs.{Candidates.{candidates, fits, is_candidate, is_inside, is_present}, Distinct.{HaveDistinctTags, tag_cmp}, Moments.{moment_in}}
pub use Rattle.rule_model.specs.{Moments.{reached_in}, Rows.{argument, pattern_of}, Tests.{tests_hold}, Tuples.{name_of, unbound}}
pub use Rattle.rule_model.specs.declared.{condition.Condition.{Condition}, life.Life.{Life, TheVariants.{Explicit, Finite, Infinite, Plain}}}
pub use Rattle.rule_model.specs.declared.{life.LifeTable.{LifeTable}, matched.Match.{Match}, program.{Program.{Program}, Rule.{Rule}}}
pub use Rattle.rule_world.specs.{Lawful.{EventsInOrder, FollowedBy, IsLawful}, Worlds.{World, pending, snapshot}}
