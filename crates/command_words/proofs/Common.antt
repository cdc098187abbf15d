-- Names from modules that two proofs and more cite, passed on from one place. Declares nothing.
pub use Rattle.std.proofs.Common.{◌∙◌, sym, true, List, Some, ap, refl, rules, ◌≡◌, IfSome, None, Option, arith, length, subst, ℕ, ◌≤◌, Ok, Result, [], ap₂}
pub use Rattle.{std.proofs.Common.{false, inl, inr, map, option_and_then, option_map, string_bytes, ◌∷◌}, clap.specs.Words.{IsAmong, Row, Text, fault_of}}
pub use Rattle.clap.specs.Words.{found_of, is_simple, is_simple_and_free, matches_of, App, Kinds, first_of, kind_of, rows_of, with_rule}
pub use Rattle.{clap.specs.declared.error.kind.ErrorKind.{ErrorKind}, command_words.specs.Asked.{IsWithinBounds, IsLimit, IsLoadNumber, asks_file, asks_load}}
pub use Rattle.command_words.specs.Asked.{asks_parts, asks_resumed, given_or, limited, load_numbered, mode_of, number_in_digits}
