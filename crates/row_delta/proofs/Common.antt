-- Names from modules that two proofs and more cite, passed on from one place. Declares nothing.
pub use Rattle.std.proofs.Common.{◌≡◌, ◌∙◌, ap, sym, List, Bor, not, refl, ◌&&◌, ◌++◌, rules, subst, ◌||◌, [], arith, cond, false, take, ◌∷◌, Bool, Err, Ok}
pub use Rattle.std.proofs.{Common.{Result, Vec, append-nil, append_assoc, get_or, length, true, ℕ, ◌+◌, ◌<◌}, lemmas.Grind.{common_steps}}
pub use Rattle.std.proofs.lemmas.Iterator.{YieldsList-from_slice, YieldsList-from_map, items_from_drains, Adapters.{YieldsList-from_vec, fact_from_extend}}
pub use Rattle.std.proofs.lemmas.{Iterator.Search.{cmp_from_yields_List}, List.{Folds.{list_any-append, list_any_more}, Kept.{IsStrictlySortedBy-filter}}}
pub use Rattle.std.specs.{BTreeSet.{difference, contains}, Iterator.Adapters.{map_callee}, List.{AllByRecursion}, Ordering.{eq_by_cmp, nat_cmp, is_eq}}
pub use Rattle.std.specs.{Ordering.{ordering_then}, Prelude.{IfOk, filter}, Set.{is_member}, declared.cmp.Ordering.{Ordering, TheVariants.{Less, Equal}}}
pub use Rattle.row_delta.specs.{DifferenceLaws.{between_applicable, between_applied, net_applied}, Differences.{IsApplied, IsBetween}, RowOrder.{same_equiv}}
pub use Rattle.row_delta.specs.{RowOrder.{same_rows, same_tags}, RowSets.{lent_rows, shown}, Rows.{has, InOrder, row_cmp}, declared.row.Named.{Named}}
pub use Rattle.row_delta.specs.declared.row.Row.{Row}
