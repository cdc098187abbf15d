-- Names from modules that two proofs and more cite, passed on from one place. Declares nothing.
pub use Rattle.std.proofs.Common.{sym, ◌∙◌, ◌≡◌, subst, List, Some, ap, length, refl, ℕ, arith, [], false, pos, true, ◌≤◌, Bool, None, inl, inr, ℤ, ◌<◌, ◌∷◌}
pub use Rattle.std.proofs.{Common.{◌≤ℤ◌, FitsSigned, Option, get_or, negsuc, of_z, suc, to_z, to_z-of_z, w64, ◌+◌, ◌^◌, ◌⊎◌}, lemmas.Int.{ints}}
pub use Rattle.std.{proofs.lemmas.Option.{slice_get_read, slice_get_within}, specs.{Bool.{Decides}, Prelude.{slice_get, IfOk, IfSome}}}
pub use Rattle.expiry_infer.specs.{Found.{IsSolved, IsReachFound}, Tables.{GivesAt, lent, AddsAt, GivesIn, AddsBy}, Tops.{Among, IsTop}}
pub use Rattle.{fx_base.specs.declared.{bound.Bound.{Bound}, times.Times.{Times}}, life_edges.proofs.Distances.{of_points, of_times, reached}}
pub use Rattle.life_edges.{proofs.{Fitting.{all_among, all_small}, Places.{false_is, the_same}}, specs.Edges.{edges_of_conditions, HaveNetwork}}
pub use Rattle.life_edges.specs.{Places.{placed, StandsIn}, Tails.{limit_of, IsSmallLimit, HaveLives, IsShortLimit, HasShortWindow, IsShortSpan}}
pub use Rattle.life_meaning.specs.{Lifetimes.{tail, Adds, AddsSome, IsLife, LivesFor, PatternLife, of_event, of_fact}, Networks.{AreSolvable, Occurrence}}
pub use Rattle.life_meaning.specs.{Networks.{SolvesConditions}, Reach.{finite, plus, Limit, infinite, Below, IsReach, Placed, SolvesWith}}
pub use Rattle.rule_model.{proofs.RuleOf.{in_place}, specs.{Rows.{pattern_of}, Types.{is_reference, expiry_in, is_event, is_event_type}}}
pub use Rattle.rule_model.specs.declared.{condition.{Condition.{Condition}, Pattern.{Pattern}}, life.Life.{Life}, program.{Program.{Program}, Rule.{Rule}}}
pub use Rattle.{rule_model.specs.declared.program.TypeInfo.{TypeInfo}, temporal_net.specs.Networks.{IsWithinNetwork, Network}}
