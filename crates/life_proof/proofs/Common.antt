-- Names from modules that two proofs and more cite, passed on from one place. Declares nothing.
pub use Rattle.std.proofs.Common.{◌≡◌, sym, List, subst, Bool, [], arith, drop, refl, ◌∙◌, ◌∷◌, false, length, true, ap, suc, ℕ, ℤ, zero, ◌++◌, Some, inl, inr}
pub use Rattle.std.proofs.Common.{pos, ◌&&◌, ◌+◌, ◌≤ℤ◌, None, ◌+ℤ◌, ◌-ℤ◌, ◌<◌, Option, get_or, map, ◌<ℤ◌, ◌≢◌, ◌≤◌, ◌⊎◌, SFits, append_assoc, if◌then◌else◌}
pub use Rattle.std.proofs.{Common.{neg_ℤ, negsuc, take, to_z-of_z, ◌*◌, ◌==◌, ◌^◌}, lemmas.{Bool.Decides.{Decides-int_eq}, Int.{ints}}}
pub use Rattle.std.{proofs.lemmas.{List.Elements.{All-same, Contains-get_or, recursion_from_All}, Result.{IfOk-weaker}}, specs.Bool.{Decides}}
pub use Rattle.{std.specs.{Int.RustNames.{int_le, int_lt}, List.{AllByRecursion, Contains, list_all, All}, Prelude.{slice_get}}, fx_base.specs.Lists.{In}}
pub use Rattle.life_edges.proofs.{Distances.{of_times, reached, same_distance}, Runnable.{rules_have_networks}, Scopes.{scope_at, scope_network}}
pub use Rattle.{life_edges.specs.{Edges.{end_of, start_point_of, HaveNetwork}, Places.{placed}}, life_proof.specs.Asked.{asked, IsReachAsked, each_from}}
pub use Rattle.life_proof.specs.{Asked.{asked_in, HasPlaces, asked_at, asked_from, asked_to, asked_within, life_under}, Good.{edges_for, AreGoodParts}}
pub use Rattle.life_proof.specs.Good.{IsGoodPart, are_good_parts, IsBounding, IsGood, IsRound, IsShown, is_event_at, scope_of, tail_at, leads, has_edge}
pub use Rattle.life_proof.specs.{Good.{is_good_part, is_within_limit, returns, same_edge, scope_in, scope_with}, Solved.{IsSolvedPart, AreSolved}}
pub use Rattle.life_proof.specs.Tables.{IsLawfulLife, Spans, are_lives_of, IsLawfulTable, is_lawful_table, is_life_of, are_spanned, is_expiry, is_spanned}
pub use Rattle.life_proof.specs.{Tables.{is_unexpired, spans, spans_by}, declared.part.{Asked.{Asked}, Part.{Part}, Proof.{Proof}}}
pub use Rattle.life_meaning.specs.{Tables.{IsLifeOf, AreLives, IsSafeLife}, Lifetimes.{Adds, IsLife, LivesFor, of_event, of_fact, scope, PatternLife, tail}}
pub use Rattle.life_meaning.specs.Reach.{Below, Limit, finite, infinite, plus, IsReach, Placed, IsGreatestReach, SolvesWith, distance}
pub use Rattle.rule_model.{proofs.RuleOf.{in_place}, specs.{Rows.{pattern_of}, Types.{is_event, expiry_in, is_event_type, is_reference}}}
pub use Rattle.rule_model.specs.declared.{condition.{Condition.{Condition}, WindowTag.{WindowTag, TheVariants.{Length, Time, Whole}}}, life.Life.{Life}}
pub use Rattle.rule_model.specs.declared.{life.{Life.TheVariants.{Explicit, Finite, Infinite, Plain}, LifeTable.{LifeTable}}, program.Program.{Program}}
pub use Rattle.{rule_model.specs.declared.program.{Rule.{Rule}, TypeInfo.{TypeInfo}}, rule_world.specs.Programs.{IsRunnable, NameEarlier}}
pub use Rattle.temporal_net.specs.Networks.{total, IsUnboundedDifference, edge_at, IsNegativeCycle, IsShortestPath, IsSmallEdge, LeadsWay}
pub use Rattle.temporal_net.specs.declared.edge.NetEdge.{NetEdge}
