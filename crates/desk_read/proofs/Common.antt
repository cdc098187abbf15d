-- Names from modules that two proofs and more cite, passed on from one place. Declares nothing.
pub use Rattle.std.proofs.Common.{Bool, List, Err, None, Ok, Option, Result, Some, ap, codes, false, refl, rules, subst, sym, true, ℕ, ◌∙◌, ◌≡◌}
pub use Rattle.{std.specs.{Prelude.{IfOk, if◌then◌else◌, option_and_then}, Str.{bytes_eq}}, serde_json.specs.Data.{Data}}
pub use Rattle.script_read.{specs.{Asked.{IsLineReading, reading}, Form.{has_count}, Members.{count, text_member}}, proofs.Readings.{reading_again}}
pub use Rattle.{script_read.proofs.Readings.{reading_sound}, desk_read.specs.Questions.{IsQuestion, TellsQuestion, counts, facts, question_by_word, save}}
pub use Rattle.desk_read.specs.{Questions.{typed_facts, typed_parts}, declared.asked.Question.{Question, TheVariants.{Counts, Facts, Save}}}
