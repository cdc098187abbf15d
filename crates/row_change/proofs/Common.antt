-- Names from modules that two proofs and more cite, passed on from one place. Declares nothing.
pub use Rattle.std.proofs.Common.{sym, ◌∙◌, ◌≡◌, not, ◌&&◌, ◌||◌, Bool, List, ap, false, subst, true, [], length, refl, take, ◌++◌, ◌∷◌, Err, IfErr, IfOk, Ok}
pub use Rattle.std.proofs.Common.{Result, arith, cond, drop, drop-cons, get_or, inl, inr, is_ok, rules, suc, zero, ℕ, ◌+◌, ◌-◌, ◌<◌, ◌≤◌}
pub use Rattle.std.proofs.lemmas.{List.{Folds.{list_any-append, list_any_at}, Sorted.{answers_always, searchable_from_sorted}}, Map.Steps.{list_any_congr}}
pub use Rattle.{std.specs.Ordering.{eq_by_cmp, is_lt, is_eq, ordering_index, ordering_reverse}, row_delta.specs.RowOrder.{same_equiv, row_exact, row_total}}
pub use Rattle.row_delta.specs.{Rows.{has, row_cmp, InOrder}, declared.row.Row.{Row}}
