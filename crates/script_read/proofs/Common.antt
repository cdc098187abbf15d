-- Names from modules that two proofs and more cite, passed on from one place. Declares nothing.
pub use Rattle.std.proofs.Common.{Bool, Bor, Equal, Err, Global, Greater, Less, List, None, Ok, Option, Ordering, Result, Some, String, [], ap, ap₂, arith}
pub use Rattle.std.proofs.Common.{codes, drop, false, get_or, inl, inr, length, length-drop, nat_cmp, of_calls, of_z, option_and_then, refl, rules, subst, suc}
pub use Rattle.std.proofs.Common.{sym, take, take_all, to_z, true, w64, zero, ℕ, ℤ, ◌++◌, ◌+◌, ◌-◌, ◌<◌, ◌==◌, ◌∙◌, ◌∷◌, ◌≡◌, ◌≤◌}
pub use Rattle.std.specs.{Cmp.Lexicographic.{slice_cmp}, List.{AllByRecursion, AllWithin, insert}, Ordering.{is_lt, match_ordering, ordering_index}}
pub use Rattle.std.specs.{Ordering.{ordering_reverse}, Prelude.{IfOk, IfSome, IsErrOf, if◌then◌else◌, option_map}, Str.{IsUtf8, bytes_eq, is_utf8}}
pub use Rattle.json.specs.{Json.{if_last, member, no_members, number, object, string}, Value.{members_view, value_view}}
pub use Rattle.script_read.specs.Asked.{AnswersLine, IsLineReading, asked, asked_of_command, asked_of_reading, asks, bad_command, bad_json, reading}
pub use Rattle.script_read.specs.{Flat.{put_given, three, tree_command, tree_given, tree_givens, two, word_command}, Form.{IsForm, advance, advance_parts, at}}
pub use Rattle.script_read.specs.Form.{at_parts, begin, command_by_word, command_of, fire, fire_most, fire_parts, has_count, held, insert_into}
pub use Rattle.script_read.specs.Form.{insert_into_parts, insert_parts, modify, modify_parts, promise, promise_for, promise_of_parts, promise_parts, retract}
pub use Rattle.script_read.specs.{Form.{retract_parts}, Given.{given_of, givens}, Members.{count, count_member, from_one, id_member, object_member}}
pub use Rattle.script_read.specs.{Members.{text_member, whole_member}, Rising.{IsRising, name_cmp}, declared.asked.Change.TheVariants.{Advance, At, Begin}}
pub use Rattle.script_read.specs.declared.asked.{Change.TheVariants.{Insert, Modify, Promise, Retract}, Command.{Command, TheVariants.{Change, Fire, Held}}}
pub use Rattle.{script_read.specs.declared.given.Given.{Given}, serde_json.specs.{Data.{Data, Members, Num, put}, Find.{as_i64}, Read.{max_depth, number_from}}}
pub use Rattle.serde_json.specs.Read.{number_of, of_json, of_members, read}
