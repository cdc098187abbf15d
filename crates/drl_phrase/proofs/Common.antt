-- Names from modules that two proofs and more cite, passed on from one place. Declares nothing.
pub use Rattle.std.proofs.Common.{◌≡◌, arith, length, List, refl, ℕ, ◌∷◌, ◌≤◌, Some, sym, ◌-◌, ◌<◌, Bool, None, Option, [], cond, false, subst, suc, true, zero}
pub use Rattle.{std.{proofs.Common.{◌∙◌, ap, append_assoc, ℤ, ◌++◌, ◌+◌}, specs.{Prelude.{IfNone, IfSome, codes}, Str.{bytes_eq}}}, drl_expr.specs.Exact.{Read}}
pub use Rattle.{drl_expr.specs.{Exact.{Found, Phrase}, Words.{IsIdent, is_ident}}, drl_lex.specs.declared.token.Mark.TheVariants.{And, Comma, Minus, Or}}
pub use Rattle.drl_lex.specs.declared.token.{Mark.TheVariants.{Semicolon, CloseBrace, CloseBracket, CloseParenthesis, Dot, Plus, Star}, TokenKind.{TokenKind}}
pub use Rattle.{drl_lex.specs.declared.token.TokenKind.TheVariants.{Mark, Word, Number, Text, Time}, drl_phrase.specs.Exact.{ExactPhrase, phrase_binds}}
pub use Rattle.drl_phrase.specs.Reading.{with_front, with_first, after, if_last, level, listed_step, many_at, many_step, mark_of, maybe_step, members_at}
pub use Rattle.drl_phrase.specs.{Reading.{more_at, more_step, optional_step, separated_at, turns_at, ◌>>=◌}, declared.phrase.Punctuation.{Punctuation}}
