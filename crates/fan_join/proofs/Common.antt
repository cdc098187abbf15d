-- Names from modules that two proofs and more cite, passed on from one place. Declares nothing.
pub use Rattle.std.proofs.Common.{◌∙◌, ap, List, refl, sym, ◌≡◌, Some, slice_get, length, subst, Bool, None, [], false, not, true, ℕ, ◌&&◌, ◌+◌, ◌||◌, ◌∷◌}
pub use Rattle.std.proofs.{Common.{Option, get_or, inl, inr, ◌++◌, ◌<◌, ◌⊎◌, cond, take}, Math.ListN.{set}, lemmas.Option.{slice_get-get_or}}
pub use Rattle.std.{proofs.lemmas.Bool.{false≢true}, specs.{BTreeMap.{get}, Option.{is_some}, Ordering.{eq_by_cmp, nat_cmp}}}
pub use Rattle.{alpha_memory.specs.{JoinIndex.{at}, declared.join_index.JoinIndex.{JoinIndex}}, fan_join.specs.Turns.{IsRowsDifference, AreNamesTurned}}
pub use Rattle.fan_join.specs.{Turns.{AreRowsInTurn}, Fans.{nothing, IsReached, IsMemberTurned}, Reaching.{has_place, is_member_under, AreAmong}}
pub use Rattle.fan_join.specs.{Reaching.{AreDifferences, AreKept}, declared.{fan.FanJoin.{FanJoin}, row_turn.RowTurn.{RowTurn}}}
pub use Rattle.{fx_base.specs.{Values.{same_value}, declared.value.Value.{Value}}, join_tests.specs.{Joins.{joins, Look}, Kept.{candidate_value}}}
pub use Rattle.{join_tests.specs.RowKeys.{row_key, value_by}, join_memory.{proofs.Turning.{keeps_then}, specs.Apart.{beside, LooksWhereKept, has_candidate}}}
pub use Rattle.join_memory.specs.{Apart.{NamesCome, NamesLeave, has_row}, Joined.{has_name, joined, splits, unjoined}, Memories.{has_left, KeepsMemories}}
pub use Rattle.join_memory.specs.{Memories.{has_right, made}, declared.{candidates.Candidates.{Candidates}, left_rows.LeftRows.{LeftRows}}}
pub use Rattle.{row_change.specs.Changes.{IsDifference, LeadsRows, along, without}, row_delta.specs.{NameOrder.{name_cmp}, Rows.{has, row_cmp}}}
pub use Rattle.{row_delta.specs.declared.{delta.Delta.{Delta}, row.{Named.{Named}, Row.{Row}}}, join_memory.proofs.Sharing.{value_beside}}
pub use Rattle.rule_model.specs.declared.condition.Pattern.{Pattern}
