-- Names from modules that two proofs and more cite, passed on from one place. Declares nothing.
pub use Rattle.std.proofs.Common.{not, ◌∙◌, ◌≡◌, ap, cond, false, sym, true, ℕ, ◌&&◌, ◌||◌, Bool, refl, None, Option, nat_eq, ℤ, List, Some, [], arith, take}
pub use Rattle.std.proofs.{Common.{◌==◌, ◌∷◌, filter, get_or, length, map, ◌+◌, ◌<◌, ◌≤ℤ◌}, Math.Bool.{and-false, and-true, or-false, or-true}}
pub use Rattle.std.proofs.lemmas.{Bool.{and_parts, or_parts, or_right, Decides.{Decides-eqb}}, Cmp.{nat_cmp_total, eq_by_cmp_equiv}, Int.{ints, to_z-of_z}}
pub use Rattle.std.{proofs.lemmas.List.Folds.{list_any-append, list_any_more}, specs.{List.{list_any}, Ordering.{eq_by_cmp, nat_cmp}}}
pub use Rattle.{due_queue.specs.Timers.{has_come, is_due, Timers}, retention.specs.RetentionLaws.{HoldLaw, LaterLaw, TagsLeftLaw, NewLaw, PastLaw, ReleaseLaw}}
pub use Rattle.retention.specs.{RetentionLaws.{SameCovered, SameWatched}, Retentions.{has_listed_tag, is_named, lingers, is_tag_among, is_touched}}
pub use Rattle.retention.specs.Watching.{is_old, with_end, without}
