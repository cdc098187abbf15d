-- Names from modules that two proofs and more cite, passed on from one place. Declares nothing.
pub use Rattle.std.proofs.Common.{◌∙◌, ap, ◌≡◌, sym, List, refl, ◌&&◌, ◌||◌, Some, [], ◌∷◌, Bool, None, false, subst, take, true, cond, Option, ◌++◌, not}
pub use Rattle.std.proofs.{Common.{Global, Vec, get_or, ℕ, arith, length, ◌+◌, ◌<◌, map, rules, suc, zero, ℤ}, lemmas.{Grind.{common_steps}, List.{take_all}}}
pub use Rattle.std.proofs.lemmas.{List.{map-id, Folds.{list_any-append, list_any_more}, Kept.{IsStrictlySortedBy-filter}}, Map.Made.{is_some-lookup}}
pub use Rattle.std.{proofs.lemmas.{Map.Made.{is_member-filter}, Result.{IfOk-weaker}}, specs.{BTreeMap.{is_at}, List.{list_any, filter}, Map.{keys_of}}}
pub use Rattle.std.specs.{Bool.{then_some}, Option.{option_map, is_some, option_and_then}, Prelude.{IfSome}, Ordering.{eq_by_cmp}}
pub use Rattle.{std.specs.declared.cmp.Ordering.{Ordering}, alpha_memory.specs.{Bucket.{found, entries}, JoinIndex.{at, bucket_at, AreKeys}}}
pub use Rattle.{alpha_memory.specs.declared.{bucket.Bucket.{Bucket}, join_index.JoinIndex.{JoinIndex}}, fx_base.specs.SameValues.{equal_values, same_itself}}
pub use Rattle.{fx_base.specs.{Values.{same_value}, declared.value.Value.{Value}}, join_tests.specs.Joins.{Look, joins, is_named_version, passes_given}}
pub use Rattle.join_tests.specs.{Joins.{tuple_at, version_at, versions_at}, Kept.{SeesRows, all_sought, row_value, candidate_value, candidates_sought}}
pub use Rattle.{join_tests.specs.Kept.{is_value_among, kept_under, rows_sought}, join_memory.specs.Apart.{beside, has_candidate, NamesCome, NamesLeave}}
pub use Rattle.join_memory.specs.{Apart.{RowsCome, RowsLeave, has_row, LooksWhereKept}, Inputs.{row_naming}, Joined.{has_name, joined, unjoined, with_name}}
pub use Rattle.join_memory.specs.{Joined.{split_last, splits, behind_first, front_of}, Memories.{has_left, has_right, KeepsMemories, made, row_kept, Agrees}}
pub use Rattle.join_memory.specs.{Memories.{left_at, name_kept}, Standing.{cleaned, remembered, AlikeOn, MemoryMoveLaw, PassesAlike, StandsFor, clean, either}}
pub use Rattle.{join_memory.specs.{Under.{name_joins, row_joins, stands_in}, declared.memories.Memories.{Memories}}, row_delta.specs.NameOrder.{name_cmp}}
pub use Rattle.row_delta.specs.{NameOrder.{name_equiv, name_exact}, RowOrder.{same_equiv, row_exact}, Rows.{row_cmp, has}, declared.row.Named.{Named}}
pub use Rattle.{row_delta.specs.declared.row.Row.{Row}, rule_model.specs.declared.condition.Pattern.{Pattern}}
