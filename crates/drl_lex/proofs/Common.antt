-- Names from modules that two proofs and more cite, passed on from one place. Declares nothing.
pub use Rattle.std.proofs.Common.{◌≡◌, ℕ, List, length, refl, arith, true, [], ap, ◌∙◌, ◌∷◌, Bool, false, ◌++◌, None, Option, Some, ◌+◌, ◌<◌, Err, Ok, cond}
pub use Rattle.std.proofs.Common.{eqb, ◌≤◌, ◌-◌, Result, append_assoc, sym, take, ◌&&◌, drop, get_or, not, suc, zero, ◌^◌, eq-eqb, ◌||◌, Bor, min, ◌*◌}
pub use Rattle.std.proofs.lemmas.{Bool.{eqb-true, eqb-false, leb-true, ltb-true, leb-false, ltb-false, Decides.{nat_tests}}, List.{length-append, append-nil}}
pub use Rattle.std.proofs.lemmas.{List.{take_all, at_drop_more}, Str.{IsUtf8-from_ascii, IsUtf8-from_is_utf8, digit_value_digit, is_utf8-from_IsUtf8}}
pub use Rattle.std.specs.{Char.{is_ascii_digit, digit_value}, List.{list_all}, Prelude.{codes, IfSome, nat_lt, option_map, is_some, nat_le, IfErr, IsErrAnd}}
pub use Rattle.{std.specs.{Prelude.{IsOk, MatchResult}, Str.{is_utf8, IsAscii, IsUtf8, bytes_eq, Parse.{digits_value}}}, drl_lex.specs.Answers.{kept}}
pub use Rattle.drl_lex.specs.{Answers.{FailsLexing, GivesTokens}, Bytes.{begins, IsWithout, is_line_byte, is_run_byte, is_word_byte, begins_word}}
pub use Rattle.drl_lex.specs.{Faults.{IsLexFault, IsDigitRun, BeginsNothing, IsFirstFault, IsOpened, IsRefused}, Fronts.{behind_close, longest, close_step}}
pub use Rattle.drl_lex.specs.{Fronts.{longest_step}, Leads.{in_class, lead_of, text_byte_of}, MarkReading.{mark_at, mark_step}, Marks.{lengthens, mark_text}}
pub use Rattle.drl_lex.specs.Reading.{ReadToken, content_at, behind_block, lexed, mark_read, number_kind, piece_at, run_kind, text_step, time_kind, token_read}
pub use Rattle.drl_lex.specs.Reading.{var_step, with_byte, with_rest, behind_piece, comment_read, content_end, content_step, escape_step, lexed_step, text_read}
pub use Rattle.drl_lex.specs.{Reading.{with_token}, Texts.{escaped_byte, IsContent}, TimeReading.{time_of, is_empty_text, last_at, unit_part_at, total_of}}
pub use Rattle.drl_lex.specs.{TimeReading.{capped}, Times.{IsNumeral, IsTime, IsLastPart, IsTimePart}, Tokens.{IsPiece, ReadsTokens, Spells, longer, AreTokens}}
pub use Rattle.drl_lex.specs.{Tokens.{IsComment, IsText}, declared.bytes.Lead.{Lead, TheVariants.{Other, Blank, Digit, Dollar, Hash, Letter, Quote, Slash}}}
pub use Rattle.drl_lex.specs.declared.{bytes.TextByte.TheVariants.{Backslash, Plain, Closing, Newline}, fault.LexCode.{LexCode, TheVariants.{BadChar}}}
pub use Rattle.drl_lex.specs.declared.{fault.LexCode.TheVariants.{NumberLarge, OpenText, OpenComment}, token.Mark.TheVariants.{Assign, Comparison, And, At}}
pub use Rattle.drl_lex.specs.declared.token.Mark.TheVariants.{CloseBrace, CloseBracket, CloseParenthesis, Colon, Comma, Dot, Minus, OpenBrace, OpenBracket}
pub use Rattle.drl_lex.specs.declared.token.{Mark.TheVariants.{OpenParenthesis, Or, Plus, Semicolon, Star}, Rel.TheVariants.{Equal, Greater, GreaterOrEqual}}
pub use Rattle.drl_lex.specs.declared.token.{Rel.TheVariants.{Less, LessOrEqual, NotEqual}, Token.{Token}, TokenKind.{TokenKind, TheVariants.{Number, Time}}}
pub use Rattle.drl_lex.specs.declared.token.TokenKind.TheVariants.{Mark, Text, Var, Word}
