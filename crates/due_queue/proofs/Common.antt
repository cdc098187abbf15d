-- Names from modules that two proofs and more cite, passed on from one place. Declares nothing.
pub use Rattle.std.proofs.Common.{Bool, List, None, Option, Some, [], ap, arith, cond, false, filter, inl, inr, length, not, refl, subst, sym, to_z-of_z, true}
pub use Rattle.std.proofs.{Common.{ℕ, ℤ, ◌&&◌, ◌<◌, ◌||◌, ◌∙◌, ◌∷◌, ◌≡◌, ◌⊎◌}, lemmas.{Bool.{and_parts}, Cmp.{alike_right, eq_by_cmp_equiv, on_total}}}
pub use Rattle.std.{proofs.lemmas.{Cmp.{then_total, tied_itself, upto}, Int.{ints}}, specs.{BTreeMap.{is_at, Range.{is_past_end}}, Cmp.{IsEquivalence}}}
pub use Rattle.std.specs.{Cmp.{IsTotalOrder, both_ways, int_cmp_total, nat_cmp_total, unsigned_tied}, FinMap.{find, get-from_entries, get-insert, get-remove}}
pub use Rattle.std.specs.{FinMap.{get-retain_keys, nat_cmp-IsAntisymmetric, same_map}, List.{AllByRecursion, list_any}, Option.{option_map}}
pub use Rattle.std.specs.{Ordering.{eq_by_cmp, int_cmp, is_eq, is_gt, is_le, is_lt, nat_cmp, ordering_reverse, ordering_then}, Prelude.{IfNone, int_le, int_lt}}
pub use Rattle.std.specs.{Prelude.{nat_eq, pos, take_while, unwrap_or, ◌≤ℤ◌}, declared.cmp.Ordering.{Ordering, TheVariants.{Equal, Greater, Less}}}
pub use Rattle.{std.specs.declared.ops.Bound.{Bound, TheVariants.{Excluded, Included, Unbounded}}, due_queue.specs.Moments.{Agree, AreDue, found, has_pair}}
pub use Rattle.due_queue.specs.{Moments.{is_due, is_moment, pair_cmp}, Timers.{TakesDue, Timers, due_cmp, has_come, moment_of, timers_of}}
pub use Rattle.fx_base.proofs.Orders.{is_eq-then, is_eq-true}
