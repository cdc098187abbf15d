-- Names from modules that two proofs and more cite, passed on from one place. Declares nothing.
pub use Rattle.std.proofs.Common.{Bool, Err, List, None, Ok, Option, Result, Some, [], ap, append_assoc, ap₂, arith, cond, drop, false, get_or, inl, inr}
pub use Rattle.std.proofs.Common.{is_some, length, lt-ltb, map, nat_le, nat_lt, of_calls, option_map, refl, rules, set, subst, suc, sym, take, true, zero, ℕ, ℤ}
pub use Rattle.std.proofs.{Common.{◌&&◌, ◌++◌, ◌+◌, ◌-◌, ◌<◌, ◌==◌, ◌||◌, ◌∙◌, ◌∷◌, ◌≡◌, ◌≤◌, ◌⊎◌}, lemmas.List.{get_or-map, length-append, length-take-le}}
pub use Rattle.std.{proofs.lemmas.List.{take_all, take_more, Sorted.{answers_always}}, specs.Cmp.Lexicographic.{bytes_decides, slice_cmp}}
pub use Rattle.std.specs.{List.{IsAllAdjacentAnswer, list_all}, Option.{option_and_then}, Ordering.{is_eq, is_lt, nat_cmp, ordering_index}, Prelude.{slice_get}}
pub use Rattle.{std.specs.Str.{bytes_eq}, change_resolve.specs.Changes.{entry_asked, entry_named, fields_step, insert_step, modify_step, new_step}}
pub use Rattle.change_resolve.specs.{Changes.{promise_step, retract_step, sets_step, type_named, values_step}, Fields.{are_declared, are_fields, are_given}}
pub use Rattle.change_resolve.specs.Fields.{are_some_fields, field_named, field_value, given_under, is_field, set_for, sets_given, value_given, values_given}
pub use Rattle.{change_resolve.specs.Named.{earlier_of, fields_of}, fx_base.specs.declared.{ids.FactId.{FactId}, kind.Kind.{Kind}, value.Value.{Value}}}
pub use Rattle.{rule_model.specs.declared.program.TypeInfo.{TypeInfo}, rule_world.specs.declared.code.Code.TheVariants.{Absent, BadFields, EventFixed}}
pub use Rattle.{rule_world.specs.declared.code.Code.TheVariants.{ReferenceFixed}, script_read.specs.{Rising.{IsRising, name_cmp}, declared.given.Given.{Given}}}
