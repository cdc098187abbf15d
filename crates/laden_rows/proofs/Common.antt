-- Names from modules that two proofs and more cite, passed on from one place. Declares nothing.
pub use Rattle.std.proofs.Common.{Bool, List, None, Option, Some, [], ap, arith, cond, false, inl, inr, length, map, nat_lt, not, refl, slice_get, subst, suc}
pub use Rattle.std.proofs.{Common.{sym, true, zero, ℕ, ℤ, ◌&&◌, ◌++◌, ◌+◌, ◌<◌, ◌==◌, ◌||◌, ◌∙◌, ◌∷◌, ◌≡◌}, lemmas.Bool.{and_from, and_parts, eq-eqb, eqb-true}}
pub use Rattle.std.{proofs.lemmas.{Bool.{not-true, not_from_false, or_left, or_right}, Map.Views.{tells_apart}}, specs.{List.{filter, find}, Option.{is_some}}}
pub use Rattle.{std.specs.{Option.{option_and_then, option_map}, Prelude.{take}}, condition_rows.proofs.Alike.{held_known, joining_alike, row_alike}}
pub use Rattle.condition_rows.{proofs.Partners.{asked_first, partners_once, valued_clean}, specs.Lines.{empty_row, is_empty_row, is_result, is_ripe, line}}
pub use Rattle.condition_rows.specs.{Looks.{HasAllOf, NameHeld}, Sets.{candidates_of, has_partner, held, is_candidate_given, rows_of}}
pub use Rattle.{fold_fn.specs.Laws.{HaveSame}, fx_base.proofs.{Sequences.{is_some-cond, list_any-In, list_any-from}, Tests.{same_test}}}
pub use Rattle.{fx_base.specs.{Lists.{EachOnce, In}, declared.fact.Fact.{Fact}}, join_tests.specs.Joins.{Look, joins, version_at, versions_at}}
pub use Rattle.laden_rows.specs.{Extras.{AreExtras, IsFirstWith, lost_partners, values_gathered}, Laden.{AreOwners, IsKeptOf, count_of, extra_at}}
pub use Rattle.{laden_rows.specs.Laden.{extra_values_of, is_extra_at, laden_gives, laden_line, laden_with}, join_memory.specs.Joined.{joined}}
pub use Rattle.{join_memory.specs.Standing.{clean, cleaned, remembered}, row_delta.specs.{RowOrder.{row_exact, same_equiv}, declared.extra.Extra.{Extra}}}
pub use Rattle.{row_delta.specs.declared.row.{Named.{Named}, Row.{Row}}, rule_model.proofs.{Named.{of_filter}, Order.{Same, in_filter, passed, same_length}}}
pub use Rattle.rule_model.{proofs.Order.{same_values}, specs.{Candidates.{candidates, fits, is_behind, is_candidate, is_inside}, Distinct.{HaveDistinctTags}}}
pub use Rattle.rule_model.specs.{Rows.{argument, binds, pattern_of}, Snapshots.{Snapshot, floor}, Tuples.{Bindings, name_of}}
pub use Rattle.rule_model.specs.declared.condition.{Condition.{Condition, TheVariants.{Existing, Folded, Negated, Plain}}, Pattern.{Pattern}}
pub use Rattle.rule_model.specs.declared.program.{Program.{Program}, Rule.{Rule}}
