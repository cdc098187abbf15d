-- Names from modules that two proofs and more cite, passed on from one place. Declares nothing.
pub use Rattle.std.proofs.Common.{ap, ◌∙◌, ◌≡◌, Some, sym, List, [], ◌∷◌, Bool, None, Option, cond, refl, true, ◌++◌, arith, false, subst, ℕ, ◌<◌, ◌&&◌, eq-eqb}
pub use Rattle.std.proofs.{Common.{length, suc, ◌||◌, BTreeMap, filter, inl, inr, not, rules, zero, ◌+◌, ◌≢◌, ◌⊎◌}, lemmas.Bool.{eqb-true}}
pub use Rattle.std.proofs.lemmas.Map.{Lookups.{exact_unsigned}, Views.{lookup-from_Contains, Contains-from_lookup, IfSome-btree_map_get_from_list}}
pub use Rattle.std.{proofs.lemmas.{Map.Views.{btree_map_contains_key_from_list}, Result.{on_err_weaker, on_ok_weaker, IfOk-at_ok}}, specs.BTreeMap.{is_at}}
pub use Rattle.std.specs.{BTreeMap.{IsFromIterResult}, Cmp.{nat_cmp_total, IsEquivalence, nat_eq_equiv}, FinMap.{get-remove, find, get-insert}}
pub use Rattle.std.specs.FinMap.{nat_cmp-IsAntisymmetric, entries-insert, entries_sorted, get-empty, get-entries, get-from_entries, len-empty, len-entries}
pub use Rattle.std.specs.{FinMap.{same_map}, List.{AllByRecursion, list_any, IsDistinct}, Map.{lookup, keys_of, values_of}, Option.{is_some, option_and_then}}
pub use Rattle.std.specs.{Option.{option_map}, Ordering.{nat_cmp, eq_by_cmp, is_eq, is_lt}, Prelude.{Contains, IfOk, nat_eq, IfSome, T, slice_index_or}}
pub use Rattle.{std.specs.declared.cmp.Ordering.{Ordering}, alpha_memory.specs.{Bucket.{entries, found}, Candidates.{Candidate, names_of, has_candidate_tag}}}
pub use Rattle.alpha_memory.specs.{Candidates.{with_join, without_tag, is_tagged}, JoinIndex.{at, bucket_at, AreKeys}, Places.{candidate, AgreePlaces}}
pub use Rattle.alpha_memory.specs.{Places.{name_entry, under, numbered, numbered_entry}, declared.{bucket.Bucket.{Bucket}, join_index.JoinIndex.{JoinIndex}}}
pub use Rattle.{alpha_memory.specs.declared.memory.Place.{Place}, fx_base.specs.{Values.{same_value}, declared.value.Value.{Value}}}
pub use Rattle.row_delta.specs.declared.row.Named.{Named}
