-- Names from modules that two proofs and more cite, passed on from one place. Declares nothing.
pub use Rattle.std.proofs.Common.{Bool, List, None, Option, Some, [], add-one, ap, append_assoc, arith, cond, drop, false, inl, inr, is_some, length, map, max}
pub use Rattle.std.proofs.Common.{min, nat_eq, nat_lt, not, option_and_then, option_map, refl, slice_get, subst, suc, sym, take, true, zero, ℕ, ◌&&◌, ◌*◌, ◌++◌}
pub use Rattle.std.proofs.{Common.{◌+◌, ◌-◌, ◌<◌, ◌||◌, ◌∙◌, ◌∷◌, ◌≡◌, ◌≤◌, ◌⊎◌, Bor, rules}, lemmas.Bool.{cases_Bool, eq-eqb, eqb-true, false_from_ne_true}}
pub use Rattle.std.proofs.lemmas.{Bool.{false≢true, or_parts, or_right}, List.{append-nil, length-append, length-map, map-append, take-map}}
pub use Rattle.std.proofs.lemmas.{List.Folds.{Any-from_list_any, list_any-append, list_any-from_Any}, Option.{none-some, option_and_then_some, same_Some}}
pub use Rattle.std.{proofs.lemmas.{Option.{slice_get-map, slice_get_within}, Slice.Eq.{bytes_eq-Decides}}, specs.List.{filter, flat_map, list_any}}
pub use Rattle.{std.specs.{Prelude.{Contains, option_to_list, ◌↔◌}, Str.{bytes_eq}}, drl_expr.specs.Words.{is_among}}
pub use Rattle.drl_grammar.specs.declared.{condition.CondTree.{CondTree, TheVariants.{Negated, Plain}}, written.{Piece.{Piece}, WrittenType.{WrittenType}}}
pub use Rattle.{drl_scope.specs.{EntryPoints.{with_entry_name, with_names}, Names.{place_of_name}}, subrules.specs.Expanded.{at_line, has_word}}
pub use Rattle.subrules.specs.Expanded.{inherited_fields, inherited_metas, meta_word, numbered_rules, origins_from, plain_items, plain_type, titles_in}
pub use Rattle.subrules.specs.{Expanded.{type_behind}, Faults.{are_too_many, has_many_fields, is_over_subtypes, is_varied, number_of_fields, obstacle_from}}
pub use Rattle.subrules.specs.{Front.{open_at_end, short_items, watching}, Hierarchy.{IsAbove, above, ancestors, extended_by, first_names, goes_on, goes_round}}
pub use Rattle.subrules.specs.Hierarchy.{has_subtypes, is_below, is_other, is_subtype, is_type_of_name, kinds_of, parent_of, written_type_named}
pub use Rattle.subrules.specs.{Hierarchy.{written_type_names, written_types_of}, Known.{AreKnown, IsCount, IsHeir, IsLeading, subtype_at, subtype_of}}
pub use Rattle.subrules.specs.Sizes.{all_measured, all_size, asks_size, at_no_piece, begun_size, closed_size, free_size, longest, measured, nothing}
pub use Rattle.subrules.specs.{Sizes.{passes_limits, size_of, size_of_all, size_of_choices, size_of_walk, size_plus, size_times, sized}, Ways.{Way, all_ways}}
pub use Rattle.subrules.specs.Ways.{asks, at_begin, begun, choices, closed_in, conditions_of, each_behind, over_type, taken, times, walked}
pub use Rattle.subrules.specs.declared.ways.{Alternatives.{Alternatives}, Walk.{Walk}}
