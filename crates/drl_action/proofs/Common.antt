-- Names from modules that two proofs and more cite, passed on from one place. Declares nothing.
pub use Rattle.std.proofs.Common.{◌∷◌, ◌≡◌, Bool, List, arith, drop, false, refl, true, ℕ, None, Some, [], ap, cond, get_or, length, take, ◌<◌, Err, Ok, Result}
pub use Rattle.std.{proofs.{Common.{suc, sym, zero, ◌&&◌, ◌++◌, ◌∙◌, ◌≤◌}, lemmas.Slice.Eq.{bytes_eq-Decides}}, specs.Char.{to_ascii_lowercase}}
pub use Rattle.{std.specs.{Prelude.{codes, IfSome, IsOk, MatchResult, nat_lt}, Str.{bytes_eq, IsAscii, IsUtf8}}, drl_action.specs.Reading.{behind_word_at}}
pub use Rattle.{drl_action.specs.Reading.{set_field_named, setter_at, word_of}, drl_grammar.specs.Actions.{IsSetter, IsAction, IsAssign, setter, small}}
