-- Names from modules that two proofs and more cite, passed on from one place. Declares nothing.
pub use Rattle.std.proofs.Common.{ap, sym, ◌∙◌, subst, ◌≡◌, List, ℕ, false, refl, true, Bool, [], Some, cond, None, ◌∷◌, Option, arith, ◌&&◌, ◌++◌, ◌≤◌, length}
pub use Rattle.std.proofs.Common.{◌+◌, inl, inr, not, ◌-◌, ◌<◌, drop, filter_map, get_or, ◌||◌, ◌⊎◌, Err, Ok, Result, filter, rules, suc, ◌^◌, ◌≢◌}
pub use Rattle.std.{proofs.lemmas.{Bool.{cases_lt}, Map.Views.{exact_unsigned_eq, lookup-from_Contains}}, specs.{BTreeMap.{is_at}, Bool.{OnFalse, OnTrue}}}
pub use Rattle.std.specs.{Cmp.{nat_cmp_total, unsigned_tied, IsEquivalence, IsTotalOrder, eq_by_cmp_equiv, nat_eq_equiv}, FinMap.{nat_cmp-IsAntisymmetric}}
pub use Rattle.std.specs.FinMap.{entries_sorted, get-remove, find, get-entries, get-insert, is_sorted, same_map, from_entries, get-empty, get-from_entries}
pub use Rattle.std.specs.{FinMap.{entries-from_sorted, from_sorted, get-from_sorted, len-empty, len-entries, Entries.{below_all}}, List.{AllByRecursion}}
pub use Rattle.std.specs.{List.{IsDistinct, list_any, cons_option}, Map.{keys_of, values_of, lookup}, Ordering.{nat_cmp, is_eq, eq_by_cmp, is_lt}}
pub use Rattle.std.specs.{Ordering.{ordering_then, is_gt}, Prelude.{nat_eq, option_and_then, T, IfSome, IfNone, IfOk, Contains, OnErr, OnOk, OnSome}}
pub use Rattle.std.specs.{Prelude.{option_map, slice_index_or}, declared.cmp.Ordering.{Ordering, TheVariants.{Less, Equal, Greater}}}
pub use Rattle.fact_store.specs.{Held.{HeldFacts, facts_of, is_of, tag_of, HoldsNone, is_held_with_id, CountsType, IsNewest}, Ids.{AreIds, CountsIds}}
pub use Rattle.fact_store.specs.Indexes.{stored, has_pair, id_tag_cmp, Names, AgreeIds, HasTag, LeadsToNewest, entries_at, slot_entry_before, fact_in_slot}
pub use Rattle.fact_store.specs.{Indexes.{is_held_of_type, IsAboveNumber, IsIndex, NoneHas, SomeHas}, Versions.{is_version, Version, version_cmp, Counted}}
pub use Rattle.{fx_base.specs.declared.fact.Fact.{Fact}, page_map.specs.Pages.{NumberMap}, slab.specs.Slab.{get, Slab, Updates}}
