-- Names from modules that two proofs and more cite, passed on from one place. Declares nothing.
pub use Rattle.std.proofs.Common.{All, Contains, FitsSigned, IsSorted, Less, List, None, Option, SFits, Some, [], add-one, ap, append-nil, arith, cond, eqb}
pub use Rattle.std.proofs.Common.{false, get_or, int_cmp, int_eq, int_lt, is_gt, is_lt, length, length-append, negsuc, of_z, pos, refl, replicate, rules, subst}
pub use Rattle.std.proofs.Common.{suc, sym, to_z, to_z-of_z, true, w64, zero, ℕ, ℤ, ⊎_elim, ◌*ℤ◌, ◌*◌, ◌++◌, ◌+ℤ◌, ◌+◌, ◌-ℤ◌, ◌-◌, ◌/◌, ◌<ℤ◌, ◌<◌, ◌^◌, ◌∙◌}
pub use Rattle.std.proofs.{Common.{◌∷◌, ◌≡◌, ◌≤ℤ◌, ◌≤◌}, lemmas.{Bool.{cases_Bool, cond-false, cond_both, ne_eqb}, Int.{clamps, ints}}}
pub use Rattle.std.proofs.lemmas.List.Elements.{All-append, All-cons, All-contains, All-head, All-nil, All-replicate, All-tail, All-weaker}
pub use Rattle.std.proofs.lemmas.{List.Elements.{Contains-append_left, Contains-append_right}, Map.Entries.{lookup_head, lookup_tail, none_past_head}}
pub use Rattle.std.{proofs.lemmas.Map.Keys.{IsDistinct-from_sorted, IsDistinct-tail, sorted_head, sorted_tail}, specs.Int.{int_div_euclid, int_max, int_min}}
pub use Rattle.std.specs.{Int.{w128}, List.{AllByRecursion, IsDistinct}, Map.{count_at, keys_of, lookup}, Option.{IfSome, unwrap_or}}
pub use Rattle.fold_fn.specs.{Held.{AreTotals, HasOneMore, NoneIsZero, repeated}, Laws.{HaveSame}, Order.{in_rising_order, insert_rising, times}}
pub use Rattle.fold_fn.specs.Results.{average, floor_quotient, fold_result, greatest, greatest_of, least, least_of, total}
pub use Rattle.fx_base.proofs.Orders.{int_eq-self, int_eq-true, int_lt-flip}
