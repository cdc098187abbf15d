-- Names from modules that two proofs and more cite, passed on from one place. Declares nothing.
pub use Rattle.std.proofs.Common.{◌≡◌, ap, ◌∙◌, sym, length, ◌<◌, ◌++◌, List, [], ℕ, subst, ◌+◌, Some, arith, rules, ◌∷◌, ◌/◌, ◌≤◌, ◌^◌, None, cond, ◌%◌, ◌*◌}
pub use Rattle.std.proofs.Common.{append_assoc, get_or, Bool, Option, false, option_to_list, refl, set, true, length-append, drop, suc, zero, eq-eqb, vec_len}
pub use Rattle.std.proofs.{Common.{◌-◌, length-set, map, slice_index_or, ◌&&◌}, lemmas.{Bool.{ltb-false, ltb-true}, List.{append-nil, drop_more, get_or_past}}}
pub use Rattle.std.proofs.lemmas.List.Elements.{All-tail, All-pop, All-push, recursion_from_All, All-cons, All-from_recursion, All-get_or, All-head, All-set}
pub use Rattle.std.proofs.lemmas.Map.Views.{exact_unsigned_eq, All-keys-insert_entry, All-map-remove_entry, All-values-insert_entry, All-values-set_value}
pub use Rattle.std.{proofs.lemmas.Result.{on_err_weaker, on_ok_weaker}, specs.BTreeMap.{is_at, BTreeMap, WritesThrough, insert_entry, Range.{range_contains}}}
pub use Rattle.std.specs.{BTreeMap.Range.{entries_between}, List.{All, AllByRecursion, slice_get, filter}, Map.{keys_of, values_of, lookup, remove_entry}}
pub use Rattle.std.specs.{Map.{set_value}, Option.{option_or}, Ordering.{nat_cmp, eq_by_cmp, is_eq, is_lt}, Prelude.{nat_eq, nat_lt, IfNone, IfOk, OnSome, T}}
pub use Rattle.std.specs.{Prelude.{is_some}, VecDeque.{deque_len, Iter.{deque_iter_rest}}, declared.cmp.Ordering.TheVariants.{Less}}
pub use Rattle.{std.specs.declared.ops.Bound.TheVariants.{Excluded, Included, Unbounded}, page_map.specs.Pages.{Directory, ArePagesApart, entries_of, free}}
pub use Rattle.page_map.specs.Pages.{entries_by, number_in, value_for_number, AreDirectories, value_at, Page, entries_from, number_in_pages, NumberMap}
pub use Rattle.page_map.specs.{Pages.{entry_of, numbers_of}, Parts.{AreParts, map_of}, Rows.{held, numbered, AreDirectoriesApart, IsTrimmed, among}}
