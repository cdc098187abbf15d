-- Names from modules that two proofs and more cite, passed on from one place. Declares nothing.
pub use Rattle.{change_resolve.specs.Changes.{type_named}, change_rules.specs.{Judged.{IsLongerAt}, Staying.{IsFirstFree, IsThere, place_in}}}
pub use Rattle.{rule_change.specs.{Refused.{IsCountedAnew, counts_type}, Told.{is_place}}, rule_model.specs.declared.life.{Life.{Life}, LifeTable.{LifeTable}}}
pub use Rattle.{rule_model.specs.declared.program.{Program.{Program}, Rule.{Rule}, TypeInfo.{TypeInfo}}, std.proofs.Common.{List, None, Option, Some, [], ap}}
pub use Rattle.std.proofs.Common.{ap₂, arith, drop, get_or, inl, inr, length, map, refl, rules, subst, sym, take, true, ℕ, ◌++◌, ◌+◌, ◌<◌, ◌∙◌, ◌∷◌, ◌≡◌, ◌≤◌}
pub use Rattle.std.{proofs.lemmas.{Bool.{cases_lt}, List.{length-append}, Option.{slice_get_within}}, specs.List.{list_any}}
pub use borrow.Author.Count.{below_more}
