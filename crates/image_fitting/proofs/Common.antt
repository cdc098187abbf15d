-- Names from modules that two proofs and more cite, passed on from one place. Declares nothing.
pub use Rattle.std.proofs.Common.{sym, ◌≡◌, List, length, subst, ℕ, ◌∙◌, ap, arith, ◌<◌, refl, ◌↔◌, Bool, IsTrue, suc, Some, [], false, inl, inr, pos, true, ℤ}
pub use Rattle.std.proofs.Common.{◌==◌, ◌∷◌, ◌≤◌, None, Option, replicate, zero, ◌&&◌, ◌+◌, drop, get_or, take, map, not, ◌-◌, ◌≤ℤ◌, Err, Ok, OnOk, Result}
pub use Rattle.std.proofs.{Common.{cond, if◌then◌else◌, rules, set, ◌++◌, ◌+ℤ◌, ◌-ℤ◌, ◌^◌, ◌||◌, ◌⊎◌}, lemmas.{Cmp.{tied_itself}, Int.{ints}}}
pub use Rattle.std.proofs.lemmas.List.{length-replicate, drop_all, drop_more, get_or-replicate, get_or-set_other, get_or-set_same, get_or_default}
pub use Rattle.std.proofs.lemmas.{List.{length-append, length-set, length_push, take-take}, Option.{slice_get_within, none-some, same_Some, slice_get-get_or}}
pub use Rattle.std.{proofs.lemmas.Result.{IfOk-weaker}, specs.List.{All, AllAdjacentBelow, AllByRecursion, IsAllAdjacentAnswer, list_all}}
pub use Rattle.std.specs.{List.Sorted.{IsPermutation, IsSorted, IsStrictlySortedBy}, Ordering.{nat_cmp, eq_by_cmp, int_cmp, int_eq, is_le, is_lt, is_some_and}}
pub use Rattle.std.specs.{Ordering.{ordering_index}, Prelude.{slice_get, int_le, nat_lt, slice_index_or, int_lt, nat_le, option_map, slice_set}}
pub use Rattle.{std.specs.declared.cmp.Ordering.TheVariants.{Less, Equal, Greater}, checkpoint.specs.declared.image.Image.{Image}, fx_base.specs.Lists.{In}}
pub use Rattle.{fx_base.specs.declared.{fact.Fact.{Fact}, value.Value.{Value}}, image_fitting.specs.{Parts.{FitByParts}, Plain.{FitsPlainly, FitsByRows}}}
pub use Rattle.image_fitting.specs.{Table.{IsPlaceTable, AreFirsts, CanCount, first_at, is_finite, is_first, is_place}, Tests.{come_in_turn, ends_as_its_type}}
pub use Rattle.image_fitting.specs.Tests.{is_at_hand, is_lasting, is_next, is_reached, is_event_short, is_small, is_timed, times_fit}
pub use Rattle.{laden_rows.specs.Extras.{IsFirstWith}, image_laws.specs.Fitting.{IsForgettable, IsNeeded, world_of, Fits, IsLadenRow, IsLadenMatch}}
pub use Rattle.{image_laws.specs.{Fitting.{IsNextNumber}, Images.{snapshot_of}}, rule_model.specs.Distinct.{tag_cmp, HaveDistinctIds, HaveDistinctTags}}
pub use Rattle.laden_rows.specs.Laden.{AreOwners, extra_at, laden_with, laden_gives, laden_line, extra_values_of}
pub use Rattle.{row_delta.specs.declared.{extra.Extra.{Extra}, row.Row.{Row}}, life_meaning.specs.Tables.{AreSafe}, rule_model.proofs.Listed.{in_map, of_map}}
pub use Rattle.rule_model.specs.{Candidates.{fits, is_candidate, is_inside, is_present, is_within}, Snapshots.{Snapshot}, Types.{is_event, expiry_of, is_point}}
pub use Rattle.rule_model.specs.declared.{condition.Condition.{Condition}, life.Life.{Life, TheVariants.{Explicit, Finite, Infinite, Plain}}}
pub use Rattle.{rule_model.specs.declared.{life.LifeTable.{LifeTable}, program.{Program.{Program}, Rule.{Rule}}}, rule_world.specs.Kinds.{values_fit}}
pub use Rattle.rule_world.specs.{Kinds.{fact_fits, has_kind, have_kinds}, Lawful.{IsLawful, EventsInOrder, IsSoundFact, IsTimed}}
