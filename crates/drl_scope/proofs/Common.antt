-- Names from modules that two proofs and more cite, passed on from one place. Declares nothing.
pub use Rattle.std.proofs.Common.{◌≡◌, drop, ◌++◌, ◌∙◌, refl, ap, arith, sym, ℕ, List, Some, is_some, ◌+◌, None, Option, [], add-one, drop-cons, get_or, length}
pub use Rattle.std.{proofs.Common.{not, suc, true, ◌<◌, ◌∷◌, Bool, append_assoc, cond, false, map, max, subst, ◌&&◌, ◌*◌, ◌||◌}, specs.List.{flat_map}}
pub use Rattle.{drl_grammar.specs.declared.file.Item.{Item}, drl_scope.specs.Annotations.{duration_field_of, declared_expiry, reference_of, role_of}}
pub use Rattle.drl_scope.specs.{Annotations.{timestamp_of}, Declarations.{field_names, type_names, types_of}, EntryPoints.{entries_named, with_names}}
pub use Rattle.drl_scope.specs.{EntryPoints.{entry_names, given_name, lateness_named, source_of, with_entry_name}, Names.{place_of_name, are_distinct}}
pub use Rattle.{drl_expr.specs.Words.{is_among}, drl_scope.specs.{Observed.{watched_by, watched_names}, Sight.{meaning_of, seen_in, seen_of}}}
