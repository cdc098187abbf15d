-- Names from modules that two proofs and more cite, passed on from one place. Declares nothing.
pub use Rattle.std.proofs.Common.{◌≡◌, List, Some, [], arith, subst, ℕ, ◌∷◌, refl, sym, ◌<◌, ap, false, true, ℤ, Bool, drop, length, suc, zero, ◌++◌, ◌≤ℤ◌, ◌≤◌}
pub use Rattle.std.proofs.Common.{pos, ◌+◌, ◌∙◌, None, Option, if◌then◌else◌, inl, inr, map, take, ◌-ℤ◌, ◌||◌, cond, nat_le, negsuc, ◌%◌, ◌&&◌, ◌*◌, ◌/◌, ◌<ℤ◌}
pub use Rattle.std.proofs.{Common.{◌==◌, ◌^◌, ◌⊎◌}, lemmas.{Int.{ints, clamps}, List.Elements.{All-append, All-head, All-nil, All-tail, All-cons, All-weaker}}}
pub use Rattle.std.{proofs.lemmas.{List.Elements.{All-map}, Option.{slice_get_read, slice_get_within}}, specs.List.{All, flat_map, list_all, list_any}}
pub use Rattle.{std.specs.Prelude.{slice_get, IfSome, int_le}, fx_base.specs.{Lists.{In}, declared.times.Times.{Times}}}
pub use Rattle.life_edges.specs.Edges.{edges_of_conditions, end_of, pattern_edges, place_of, start_point_of, net_edge, test_edges, event_edges, point_of}
pub use Rattle.life_edges.specs.{Edges.{stands_in_network, HaveNetwork, RulesHaveNetworks, condition_edges}, Tails.{HaveLives, HasShortWindow, IsShortLimit}}
pub use Rattle.{life_edges.specs.Tails.{IsShortSpan, limit_of}, life_meaning.specs.{Lifetimes.{scope, tail_by}, Networks.{bindings, Occurrence, MeetsTests}}}
pub use Rattle.life_meaning.specs.{Networks.{SolvesConditions, bound, occurrence, IsMember, aside, is_test_met}, Reach.{Placed, infinite, IsGreatestReach}}
pub use Rattle.{life_meaning.specs.Reach.{IsReach, distance, occurrence_of}, rule_model.specs.{Rows.{pattern_of, HaveOperators}, Types.{is_point, expiry_in}}}
pub use Rattle.rule_model.specs.{Types.{is_event, lateness_in}, declared.condition.Condition.{Condition, TheVariants.{Plain, Existing, Folded, Negated}}}
pub use Rattle.rule_model.specs.declared.{condition.Pattern.{Pattern}, program.Program.{Program}, test.TimeTest.{TimeTest}}
pub use Rattle.rule_world.specs.Programs.{NameEarlier, IsRunnable, UseOperators, has_conditions, has_expiry, has_lateness, has_window, has_windows, is_window}
pub use Rattle.{temporal_net.specs.declared.edge.NetEdge.{NetEdge}, temporal_ops.specs.{Edges.{IsOpEdge, IsWithin, corner}, declared.edge.Corner.{Corner}}}
pub use Rattle.temporal_ops.specs.declared.edge.{Corner.TheVariants.{AEnd, AStart, BEnd, BStart}, OpEdge.{OpEdge}}
