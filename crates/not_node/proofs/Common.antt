-- Names from modules that two proofs and more cite, passed on from one place. Declares nothing.
pub use Rattle.std.proofs.Common.{Bool, List, None, Option, SFits, Some, [], ap, arith, cond, drop, false, int_lt, length, not, of_z, option_map, refl}
pub use Rattle.std.proofs.Common.{slice_get, subst, suc, sym, take, to_z, to_z-of_z, true, zero, ℕ, ℤ, ◌&&◌, ◌++◌, ◌||◌, ◌∙◌, ◌∷◌, ◌≡◌, ◌≤ℤ◌}
pub use Rattle.std.{proofs.{Math.Bool.{and-true, or-false}, lemmas.{Bool.{and_parts, not-true}, Int.{ints}, List.Folds.{list_any-append}}}, specs.Int.{w128}}
pub use Rattle.{std.specs.Ordering.{eq_by_cmp, int_cmp, is_gt}, due_queue.proofs.Clock.{below, not_later}, fx_base.proofs.Tests.{and_first, and_where, not_not}}
pub use Rattle.{join_tests.specs.Joins.{Look}, not_node.specs.Laws.{MaturityLaw, NotDropLaw, NotLaw, NotMoveLaw, NotStepLaw, QuietLaw, not_line}}
pub use Rattle.not_node.specs.{Moments.{latest_of, latest_start, moment_at}, Rows.{IsInStep, not_rows, unblocked}, Waiting.{AwaitsMoments, NoneDue}}
pub use Rattle.{not_node.specs.Waiting.{is_that_moment, later, mature, ripe, waits, waits_at}, join_memory.specs.{Memories.{left_at}, Standing.{AlikeOn}}}
pub use Rattle.{join_memory.specs.Standing.{cleaned, no_names}, row_change.specs.Changes.{IsDifference, LeadsRows, along, without}}
pub use Rattle.{row_delta.specs.{RowOrder.{same_equiv}, Rows.{has, row_cmp}, declared.row.Row.{Row}}, rule_model.proofs.Mature.{Bounds, bounds_join, none_told}}
pub use Rattle.rule_model.{proofs.Mature.{some_told}, specs.{Lent.{bound_in, named_at}, Maturity.{AreOperators, bounds_of, is_past, start_window_at}}}
pub use Rattle.rule_model.specs.{Maturity.{window_by_lists}, Types.{is_event, is_point}, declared.{condition.Pattern.{Pattern}, program.Program.{Program}}}
pub use Rattle.counting_node.proofs.Following.{rows_more}
pub use mathlib.Core.Path.{fun_ext}
