-- Names from modules that two proofs and more cite, passed on from one place. Declares nothing.
pub use Rattle.std.proofs.Common.{◌≡◌, drop, ◌++◌, ap, ◌∙◌, sym, arith, map, [], length, ◌∷◌, List, subst, false, of_z, suc, to_z, true, ◌+◌, Bool, None, Some}
pub use Rattle.std.proofs.{Common.{cond, get_or, refl, ℕ, ℤ, ◌<◌, Option, nat_lt, not, option_map, zero, ◌-ℤ◌, ◌||◌}, lemmas.{Int.{ints}, List.{append-nil}}}
pub use Rattle.{std.specs.{Int.{w128, w64}, List.{filter, flat_map}}, fold_fn.specs.{Laws.{HaveSame}, Order.{insert_rising, times}}}
pub use Rattle.{fx_base.specs.declared.fact.Fact.{Fact}, rule_eval.specs.{Found.{made_by}, Over.{over}}, rule_model.proofs.Mature.{Bounds, bounds_join}}
pub use Rattle.rule_model.{proofs.Mature.{none_told, some_told}, specs.{Candidates.{passes, candidates, is_behind, is_candidate, passing}, Lent.{lent}}}
pub use Rattle.rule_model.specs.{Lent.{tuple_of}, Maturity.{bounds_of, AreOperators, is_past, start_window_at, window_by_lists}, Rows.{HaveOperators}}
pub use Rattle.rule_model.specs.{Rows.{pattern_of, extended, argument, rows, tuples}, Snapshots.{Snapshot, floor}, Tuples.{bound_by, Bindings, Tuple}}
pub use Rattle.rule_model.specs.{Tuples.{empty_tuple, name_of, row_of, with_fact}, Types.{is_event, is_point}, declared.program.Program.{Program}}
pub use Rattle.{rule_model.specs.declared.program.Rule.{Rule}, rule_world.specs.Programs.{UseOperators}}
