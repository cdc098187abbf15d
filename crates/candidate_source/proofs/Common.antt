-- Names from modules that two proofs and more cite, passed on from one place. Declares nothing.
pub use Rattle.std.proofs.Common.{◌∙◌, ap, sym, refl, subst, ◌≡◌, ℕ, ◌+◌, ◌<◌, List, [], ◌∷◌, ◌++◌, length, take, get_or, Bool, true, false, cond, not, ◌&&◌}
pub use Rattle.std.{proofs.{Common.{◌||◌, Option, Some, None, option_map}, lemmas.{Bool.{false≢true}, List.{append-nil, take_all}}}, specs.BTreeMap.{BTreeMap}}
pub use Rattle.{std.specs.{List.{list_any}, Option.{is_some}, Ordering.{eq_by_cmp, nat_cmp}}, fx_base.specs.{Values.{same_value}, declared.value.Value.{Value}}}
pub use Rattle.row_delta.specs.{declared.{delta.Delta.{Delta}, row.{Named.{Named}, Row.{Row}}}, NameOrder.{name_cmp, name_equiv}, Rows.{has}}
pub use Rattle.{rule_model.specs.declared.condition.Pattern.{Pattern}, alpha_memory.specs.JoinIndex.{at, bucket_at}}
pub use Rattle.{alpha_memory.specs.declared.join_index.JoinIndex.{JoinIndex}, join_tests.specs.{declared.sought.Sight.{Sight}, Joins.{Look, joins}}}
pub use Rattle.{join_tests.specs.Kept.{rows_sought, row_value, values_seen, SeesRows}, join_memory.proofs.Turning.{any_name}}
pub use Rattle.join_memory.specs.{declared.{candidates.Candidates.{Candidates}, memories.Memories.{Memories}}, Apart.{has_candidate}, Inputs.{row_naming}}
pub use Rattle.join_memory.specs.{Joined.{has_name, AreDistinct}, Memories.{has_left, has_right}, Shared.{sharing, KeepsAlike, KeepsNames, NamesAgree}}
pub use Rattle.{join_memory.specs.Shared.{TakesOver, ForgoesOld}, candidate_source.specs.declared.handed.{Handed.{Handed}, Turned.{Turned, TheVariants.{Gone}}}}
pub use Rattle.candidate_source.specs.{declared.{handed.Turned.TheVariants.{Came}, source.Source.{Source}}, Handed.{went, came, gone_at, come_at, IsHandedTo}}
pub use Rattle.candidate_source.specs.{Reached.{has_place, is_under, is_under_given, is_under_one, is_sought, IsReached, IsUnreached}, Turns.{concerns}}
pub use Rattle.candidate_source.specs.Turns.{AreOnce, LeavesOthers, HaveLeft, HaveCome, HasTurned, TurnLaw, ForgetLaw}
