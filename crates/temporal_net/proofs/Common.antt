-- Names from modules that two proofs and more cite, passed on from one place. Declares nothing.
pub use Rattle.std.proofs.Common.{◌≡◌, ◌<◌, ℕ, arith, length, subst, sym, Some, List, None, ◌∙◌, ap, [], inr, ◌≤ℤ◌, false, inl, pos, ℤ, refl, ◌+ℤ◌, ◌∷◌, ◌≤◌}
pub use Rattle.std.proofs.Common.{Option, ◌++◌, true, ◌≢◌, ◌⊎◌, eqb, map, cond, get_or, suc, ◌+◌, take, zero, ◌<ℤ◌, Bool, eq-eqb, ◌-ℤ◌, replicate, set, Err}
pub use Rattle.std.proofs.Common.{FitsSigned, Global, IfOk, IfSome, Ok, Result, Vec, append-nil, drop, int_lt, negsuc, of_z, to_z, w64, ◌&&◌, ◌*ℤ◌, ◌||◌}
pub use Rattle.std.proofs.lemmas.{Bool.{cases_eq, eqb-true, Decides.{eqb_tells, Decides-by_and, Decides-eqb, Decides-like}}, Int.{ints, clamps, by_lt_z}}
pub use Rattle.std.proofs.lemmas.{Int.{to_z-of_z}, List.{get_or_default, length-map, get_or-set_other, get_or-set_same, get_or_append_left, get_or_push}}
pub use Rattle.std.proofs.lemmas.List.{length-replicate, length-set, length_push, map-append, take_more, Elements.{All-contains, All-from_recursion}}
pub use Rattle.std.proofs.lemmas.List.Elements.{Contains-get_or, All-cons, All-nil, recursion_from_All, All-append, All-push, All-weaker, Contains-append_left}
pub use Rattle.std.proofs.lemmas.{List.Elements.{Contains-append_right, Contains-push, Contains-push_cases}, Map.Steps.{length-le_from_distinct_below}}
pub use Rattle.{std.specs.{Int.{int_min, int_max}, List.{Contains, AllByRecursion, All, AllPairs, list_all, list_any}}, temporal_net.specs.Networks.{edge_at}}
pub use Rattle.temporal_net.specs.Networks.{total, HasItsPoints, IsNegativeCycle, LeadsWay, IsSmallEdge, MeetsEdge, SolvesEdges, HasGreatest, IsGreatest}
pub use Rattle.temporal_net.specs.{Networks.{IsShortestPath, IsSolvable, IsUnboundedDifference, points_of, IsWay, IsWithinNetwork, Network}, Tables.{cell}}
pub use Rattle.temporal_net.specs.Tables.{zero_distance, Table, AreTable, IsDistanceTable, lowered, Begins, FollowsWay, HasWays, ReachesWithin, cost, edge_cost}
pub use Rattle.temporal_net.specs.Tables.{lesser, loses_over, AllShort, StepsWay, edge_distance, joined, HaveWays, IsShortDistance, loses, opens}
pub use Rattle.temporal_net.specs.declared.{distance.Distance.{Distance}, edge.NetEdge.{NetEdge}}
