-- Names from modules that two proofs and more cite, passed on from one place. Declares nothing.
pub use Rattle.std.proofs.Common.{ap, ◌≡◌, List, arith, refl, true, Some, [], sym, ℕ, ◌∷◌, false, subst, ℤ, Bool, ◌≤ℤ◌, Option, inl, inr, None, ◌+ℤ◌, suc, ◌⊎◌}
pub use Rattle.std.{proofs.{Common.{zero, length, map, pos}, lemmas.Int.{ints, by_lt_z}}, specs.{List.{list_all}, Prelude.{slice_get, take}}}
pub use Rattle.{fx_base.specs.{Lists.{In}, declared.{fact.Fact.{Fact}, times.Times.{Times}}}, life_meaning.specs.Tables.{AreSafe, EndlessAreSafe, IsLifeOf}}
pub use Rattle.life_meaning.specs.{Tables.{IsSafeLife, LivesAreSafe}, Lifetimes.{IsLife, scope, Adds, LivesFor, of_event, of_fact, tail}, Networks.{bindings}}
pub use Rattle.{life_meaning.specs.Networks.{MeetsTests, Occurrence, SolvesConditions, aside, bound, is_test_met}, rule_model.specs.Rows.{binds, pattern_of}}
pub use Rattle.{life_meaning.specs.Reach.{finite, Placed, infinite, SolvesWith, Below, Limit, distance}, rule_model.specs.Maturity.{IsPossible}}
pub use Rattle.rule_model.specs.{Tests.{times_hold, time_holds, time_holds_with}, Tuples.{Tuple, bound_by}, Types.{is_event, is_reference, expiry_in}}
pub use Rattle.rule_model.specs.{Types.{is_event_type}, declared.condition.Condition.{Condition, TheVariants.{Existing, Folded, Negated, Plain}}}
pub use Rattle.rule_model.specs.declared.{condition.{Pattern.{Pattern}, WindowTag.{WindowTag, TheVariants.{Whole}}}, life.Life.{Life, TheVariants.{Explicit}}}
pub use Rattle.rule_model.specs.declared.{life.{Life.TheVariants.{Finite, Infinite}, LifeTable.{LifeTable}}, program.{Program.{Program}, Rule.{Rule}}}
pub use Rattle.rule_model.specs.declared.test.TimeTest.{TimeTest}
