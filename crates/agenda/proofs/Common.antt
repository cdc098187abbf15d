-- Names from modules that two proofs and more cite, passed on from one place. Declares nothing.
pub use Rattle.std.proofs.Common.{◌≡◌, ◌∙◌, ◌==◌, ap, ◌&&◌, ◌||◌, not, subst, refl, sym, ℕ, List, Some, [], ◌∷◌, Bool, cond, false, true, ℤ, arith, take, ◌+◌}
pub use Rattle.std.{proofs.Common.{◌-◌, Bor, drop, find, map, max, option_map, slice_get, unwrap_or, nat_lt}, specs.{BTreeSet.{insert_key}, List.{list_any}}}
pub use Rattle.std.specs.{List.{AllByRecursion, sum_by}, Ordering.{eq_by_cmp, is_eq, match_ordering}, Set.{remove_key}, declared.cmp.Ordering.{Ordering}}
pub use Rattle.{std.specs.declared.cmp.Ordering.TheVariants.{Equal, Greater, Less}, agenda.specs.Agendas.{matches, Marks, AllWell, Well, names_tag, names_id}}
pub use Rattle.agenda.specs.{Namings.{times, times_in, CountsNamings, namings}, Ranks.{rank_cmp, ranked_of, rank_equiv}, declared.ranked.Ranked.{Ranked}}
pub use Rattle.{row_delta.specs.{Rows.{has, row_cmp}, declared.row.Row.{Row}}, rule_model.{proofs.Exact.{fire_match, match_parts}, specs.First.{first}}}
pub use Rattle.rule_model.specs.{First.{earlier, pick}, Matches.{has_match, fire_cmp, match_of, match_cmp, greatest_tag}, declared.matched.Match.{Match}}
