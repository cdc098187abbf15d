-- Names from modules that two proofs and more cite, passed on from one place. Declares nothing.
pub use Rattle.std.proofs.Common.{◌≡◌, arith, refl, List, take, ℤ, ◌↔◌, None, Option, Some, true, ap, false, length, map, sym, ◌∙◌, Bool, [], subst, ℕ, ◌&&◌}
pub use Rattle.std.proofs.Common.{◌++◌, ◌-ℤ◌, ◌∷◌, ◌≤ℤ◌, ◌≤◌, drop, get_or, not, of_z, option_map, pos, to_z, ◌+ℤ◌, ◌+◌, ◌<◌, IfSome, append-nil, int_eq}
pub use Rattle.std.proofs.{Common.{length-append, length-drop, length-take, length-take-le, lit≤, set, ◌-◌, ◌^◌, ◌||◌}, Math.Seq.{take-append_seam}}
pub use Rattle.std.proofs.{Math.Seq.{drop-append_seam}, lemmas.{Int.{ints, clamps}, List.{length-map, take_all, drop-replicate, drop_all, get_or_default}}}
pub use Rattle.std.proofs.lemmas.List.{take-append-le, Elements.{All-from_recursion, All-head, All-map, All-tail, All-weaker, recursion_from_All}}
pub use Rattle.{std.specs.{Int.{int_max, w128, int_min}, List.{list_all, All, AllByRecursion}, Prelude.{replicate}}, fx_base.specs.declared.times.Times.{Times}}
pub use Rattle.temporal_ops.specs.{Edges.{edge_holds, IsOp, corner, edges_hold, is_tested, IsOpEdge, IsWithin, Joins}, Laws.{Means, EdgesAreOps, EdgesMeanRows}}
pub use Rattle.temporal_ops.specs.{Laws.{OneWindow, WindowIsOfEdges}, Operators.{opposite_edge, coincide_edges, during_edges, gap_edges, near, opposite}}
pub use Rattle.temporal_ops.specs.Operators.{order_edges, overlaps_edges, tolerance, least_difference, at_most, earlier, edges_of}
pub use Rattle.temporal_ops.specs.{Possible.{ArePossibleTimes, all_hold, AreStarts, IsLatest, AreStartsUnbounded}, Room.{FitsRoom, is_empty, AreStartLimits}}
pub use Rattle.temporal_ops.specs.{Room.{FitsEvent, IsAboveLimit, IsBelow, LiesBetweenLimits}, Stored.{blank, IsStored}, Table.{Row, no_row, table_row_of}}
pub use Rattle.temporal_ops.specs.{Table.{says, HasRow, during, exchanged, overlaps}, declared.edge.Corner.{Corner, TheVariants.{AEnd, AStart, BEnd, BStart}}}
pub use Rattle.temporal_ops.specs.declared.{edge.OpEdge.{OpEdge}, room.{Limits.{Limits}, Room.{Room}}, window.Window.TheVariants.{Never, Unbounded, UpTo}}
pub use Rattle.temporal_ops.specs.declared.word.OpWord.{OpWord, TheVariants.{After, Before, Coincides, During, FinishedBy, Finishes, Includes, Meets, MetBy}}
pub use Rattle.temporal_ops.specs.declared.word.OpWord.TheVariants.{OverlappedBy, Overlaps, StartedBy, Starts}
