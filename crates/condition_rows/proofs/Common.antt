-- Names from modules that two proofs and more cite, passed on from one place. Declares nothing.
pub use Rattle.std.proofs.Common.{Bool, List, None, Option, Some, [], ap, cond, false, inl, inr, length, map, not, refl, subst, sym, true, ℕ, ℤ, ◌&&◌, ◌++◌}
pub use Rattle.std.proofs.{Common.{◌==◌, ◌||◌, ◌↔◌, ◌∙◌, ◌∷◌, ◌≡◌}, lemmas.Bool.{and_from, and_parts, eq-eqb, eqb-true, not-true, or_left, or_right}}
pub use Rattle.std.{proofs.lemmas.List.{append-nil, append_assoc, map-append}, specs.{List.{filter, find, fold, list_any}, Option.{is_some, option_and_then}}}
pub use Rattle.{std.specs.Option.{option_map}, condition_rows.specs.{Lines.{is_empty_row, is_result, line}, Looks.{HasAllOf, NameHeld}, Sets.{candidate_names}}}
pub use Rattle.{condition_rows.specs.Sets.{held, is_candidate_given, rows_of}, fx_base.{proofs.Tests.{not_not, same_test}, specs.Lists.{EachOnce, In}}}
pub use Rattle.{fx_base.specs.declared.fact.Fact.{Fact}, join_tests.{proofs.Versions.{version_is}, specs.Joins.{Look, is_named_version, joins, passes_given}}}
pub use Rattle.{join_tests.specs.Joins.{tuple_at, version_at, versions_at}, join_memory.proofs.Valued.{from_unvalued, valued_from, valued_with}}
pub use Rattle.join_memory.specs.{Joined.{has_name, joined, with_name}, Standing.{AlikeOn, LooksAlike, StandsFor, clean, cleaned, no_names, remembered}}
pub use Rattle.{join_memory.specs.Valued.{splits_value, unvalued, valued}, row_delta.specs.NameOrder.{name_cmp, name_equiv, name_exact}}
pub use Rattle.{row_delta.specs.declared.row.{Named.{Named}, Row.{Row}}, rule_model.proofs.Listed.{in_flat_map, in_if, in_map, in_unless, not_empty}}
pub use Rattle.rule_model.proofs.{Listed.{of_flat_map, of_if, of_map, of_result, of_unless}, Named.{made_of, of_filter, of_passing}}
pub use Rattle.rule_model.specs.{Candidates.{candidates, is_candidate, passes, passing}, Distinct.{HaveDistinctTags}, Lent.{Holds, bound_in, tuple_of}}
pub use Rattle.rule_model.specs.{Rows.{extended, result_of, tuples, with_result}, Snapshots.{Snapshot, floor}, Tuples.{Bindings, Tuple, bound_by, empty_tuple}}
pub use Rattle.rule_model.specs.{Tuples.{name_of, row_of, with_fact, with_value}, declared.condition.Condition.{Condition, TheVariants.{Existing, Folded}}}
pub use Rattle.rule_model.specs.declared.{condition.{Condition.TheVariants.{Negated, Plain}, Pattern.{Pattern}}, program.Program.{Program}}
