-- Names from modules that two proofs and more cite, passed on from one place. Declares nothing.
pub use Rattle.std.proofs.Common.{sym, ◌∙◌, ◌||◌, ap, not, refl, take, ◌&&◌, ◌≡◌, Bool, false, subst, true, List, None, Option, Some, ℕ, ◌+◌, ◌<◌, ◌≤◌, length}
pub use Rattle.std.{proofs.{Common.{get_or, []}, lemmas.{List.{take_all}, Result.{on_ok_weaker}}}, specs.{Option.{is_some}, Ordering.{eq_by_cmp}}}
pub use Rattle.{beta_join.specs.Turns.{NamesTurned, TurnedMemories}, join_tests.specs.Joins.{Look, joins}, join_memory.proofs.Turning.{any_name, less_more}}
pub use Rattle.join_memory.proofs.{Turning.{more_more, keeps_then, name_absent, name_present, row_absent, row_present}, Handed.{keeps_shared}}
pub use Rattle.join_memory.{proofs.Keeping.{seen_after, if_not}, specs.{Joined.{has_name, joined, splits, unjoined}, Shared.{sharing}, Memories.{has_left}}}
pub use Rattle.join_memory.specs.{Memories.{has_right, made, KeepsMemories}, declared.memories.Memories.{Memories}}
pub use Rattle.{row_change.proofs.Alike.{difference_alike, leads_alike}, row_delta.specs.{NameOrder.{name_cmp, name_equiv}, RowOrder.{same_equiv}}}
pub use Rattle.{row_delta.specs.{Rows.{row_cmp, has}, declared.row.Row.{Row}}, rule_model.specs.declared.condition.Pattern.{Pattern}}
