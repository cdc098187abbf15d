-- Names from modules that two proofs and more cite, passed on from one place. Declares nothing.
pub use Rattle.std.proofs.Common.{arith, length, List, refl, ℕ, ◌≡◌, ◌≤◌, ◌<◌, ◌∷◌, None, Some, true, Bool, Option, [], cond, false, Err, Ok, sym, ap, drop}
pub use Rattle.std.proofs.Common.{take, ℤ, ◌+◌, ◌∙◌, Result, get_or, length-drop, min, nat_lt, suc, zero, ◌++◌, ◌-◌, ◌^◌, add-one, append_assoc, map, not}
pub use Rattle.std.proofs.{Common.{subst, ◌==◌, ◌↔◌, length-take}, lemmas.{Bool.{ltb-false, le-ltb, lt-ltb, ltb-true}, List.{length-append, append-nil}}}
pub use Rattle.std.{proofs.lemmas.List.{drop_more, map_push, take_more, Sums.{count_by-le-length, length-filter, prefix_len-le-length}}, specs.Prelude.{IfSome}}
pub use Rattle.{std.specs.{Prelude.{codes, IfErr, IfOk, IsErrAnd}, Str.{bytes_eq}}, drl_expr.specs.Exact.{Found, Read}, drl_grammar.specs.Conditions.{IsName}}
pub use Rattle.drl_grammar.specs.{Conditions.{IsAsked, IsSpan}, Files.{IsFile, lines_at, AreItems, IsOutside, IsItemRefused, begins_item, count_before}}
pub use Rattle.drl_grammar.specs.{Files.{ends_block, extent, here, later, line_at, next_item, no_items, opens_block}, Items.{IsEntry, IsItem, IsPath, IsRule}}
pub use Rattle.drl_grammar.specs.{Items.{IsType, IsAttr, IsField, IsLateness, IsMeta, IsParentName, IsSalience, IsStar, IsPathStep}, Shapes.{Many, Maybe}}
pub use Rattle.drl_grammar.specs.{Shapes.{Optional, absent, present}, declared.written.{WrittenBody.{WrittenBody}, WrittenItem.{WrittenItem}}}
pub use Rattle.{drl_grammar.specs.declared.written.WrittenType.{WrittenType}, drl_lex.proofs.FileLaws.{tokens_again, refused_again, refused_sound}}
pub use Rattle.drl_lex.{proofs.FileLaws.{tokens_sound}, specs.{Kinds.{kinds, starts}, Reading.{behind_piece, lexed, lexed_step, piece_at}, Tokens.{AreTokens}}}
pub use Rattle.drl_lex.specs.{Tokens.{ReadsTokens}, declared.token.Mark.TheVariants.{Minus, At, CloseParenthesis, Colon, Comma, Dot, OpenParenthesis}}
pub use Rattle.drl_lex.specs.declared.token.{Mark.TheVariants.{Semicolon, Star}, Token.{Token}, TokenKind.{TokenKind, TheVariants.{Mark, Word, Text, Number}}}
pub use Rattle.drl_parse.specs.{Items.{ItemsRead, items_at, GivesItems, item_step, with_item}, Parsed.{is_file, lexical, outside, too_long, Parsed}}
pub use Rattle.drl_parse.specs.{Parsed.{items_parsed, FaultOf, GivesParsed, IsParseFault, IsLexical, file_limit, tokens_parsed}, Reading.{item_at, entry_at}}
pub use Rattle.{drl_parse.specs.Reading.{item_text, meta_text, path_at, rule_at, path_star_at, type_at}, drl_phrase.proofs.NameLaws.{name_exact, span_exact}}
pub use Rattle.drl_phrase.proofs.ShapeLaws.{then, Begins, many_again, many_shorter, many_sound, same_bytes, ended_is, ended_then, guarded, ident_is, ident_then}
pub use Rattle.drl_phrase.proofs.ShapeLaws.{optional_again, optional_shorter, optional_sound, closed_then, if_some_then, maybe_again, maybe_shorter}
pub use Rattle.drl_phrase.{proofs.ShapeLaws.{maybe_sound, whole_found, word_again, word_sound}, specs.{Exact.{ExactPhrase, phrase_binds}, Reading.{whole_at}}}
pub use Rattle.drl_phrase.specs.Reading.{many_at, ◌>>=◌, name_at, after_word, maybe_at, optional_at, span_at}
