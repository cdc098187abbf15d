-- Names from modules that two proofs and more cite, passed on from one place. Declares nothing.
pub use Rattle.std.proofs.Common.{◌≡◌, ◌∷◌, ◌++◌, [], List, refl, ℕ, true, arith, ap, sym, ◌∙◌, append_assoc, false, subst, suc, Bool, drop, length, ◌+◌, zero}
pub use Rattle.std.proofs.Common.{◌&&◌, ◌<◌, not, pos, ℤ, ◌^◌, ◌≤◌, Option, cond, length-append, None, Some, add-one, drop-cons, get_or, length-drop, map, max}
pub use Rattle.std.proofs.{Common.{negsuc, take, ◌*◌, ◌==◌, ◌||◌}, lemmas.{Bool.{lt-ltb, ltb-true, Decides.{nat_tests}}, List.{append-nil, length-map}}}
pub use Rattle.std.{proofs.lemmas.Result.{on_ok_weaker}, specs.{List.{list_all, All, prefix_len}, Prelude.{codes, nat_lt, neg_ℤ, nat_le}, Str.{bytes_eq}}}
pub use Rattle.{std.specs.Str.{IsAscii, is_utf8}, drl_expr.specs.{Exact.{Phrase}, Tree.{height, Tree, add, lit, mul, neg, sub, var, var_field}}}
pub use Rattle.{drl_expr.specs.Words.{IsIdent, condition_words, is_among, value_words}, drl_grammar.specs.Conditions.{AreAll, AreAny, AreParams}}
pub use Rattle.drl_grammar.specs.Conditions.{AreResultTests, IsAsked, IsBinding, IsChoice, IsCmp, IsCondition, IsConj, IsDisj, IsFolded, IsGroup, IsLiteral}
pub use Rattle.drl_grammar.specs.Conditions.{IsName, IsOperand, IsPart, IsPlace, IsResultTest, IsSource, IsSpan, IsValueTest, IsWindow, fold_text, op_text}
pub use Rattle.drl_grammar.specs.{Files.{extent, AreItems, begins_item, count_before, line_at, lines_at, opens_block}, Items.{IsEntry, IsItem, IsPath, IsRule}}
pub use Rattle.drl_grammar.specs.{Items.{IsStar, IsPathStep, IsType, IsAttr, IsField, IsLateness, IsMeta, IsParentName, IsSalience}, Shapes.{Listed, Many}}
pub use Rattle.drl_grammar.specs.Shapes.{Maybe, Separated, Optional, absent, empty, further, left_out, members, more, nothing, present, single, written}
pub use Rattle.drl_grammar.specs.declared.{condition.{FoldWord.{FoldWord}, SourceTree.{SourceTree}}, written.WrittenBody.{WrittenBody}}
pub use Rattle.drl_lex.specs.{Bytes.{begins, begins_word, is_word_byte}, Tokens.{Spells, longer, IsPiece, ReadsTokens}}
pub use Rattle.drl_lex.specs.declared.token.Mark.TheVariants.{OpenParenthesis, CloseParenthesis, Comma, Dot, Assign, CloseBracket, Colon, Comparison, Minus}
pub use Rattle.drl_lex.specs.declared.token.{Mark.TheVariants.{OpenBracket, Semicolon, And, At, CloseBrace, OpenBrace, Or, Plus, Star}, TokenKind.{TokenKind}}
pub use Rattle.{drl_lex.specs.declared.token.TokenKind.TheVariants.{Mark, Word, Text, Var, Number, Time}, drl_show.specs.Canonical.{each, parted, listed}}
pub use Rattle.drl_show.specs.Canonical.{maybe, number_tokens, action_tokens, behind_word, expr_tokens, item_word_shown, literal_tokens, name_tokens}
pub use Rattle.drl_show.specs.Canonical.{param_tokens, path_tokens, piece_tokens, source_tokens, star_tokens, tokens_of_item, assign_tokens, attr_tokens}
pub use Rattle.drl_show.specs.Canonical.{binding_tokens, cmp_tokens, condition_tokens, conj_tokens, disj_tokens, enclosed, enclosed_tokens, entry_tokens}
pub use Rattle.drl_show.specs.Canonical.{field_tokens, function_tokens, group_tokens, joins, lateness_tokens, meta_tokens, operand_tokens, parent_tokens}
pub use Rattle.drl_show.specs.{Canonical.{part_tokens, place_tokens, rule_tokens, test_tokens, type_tokens, window_tokens}, Shown.{shown_items, CanBeSpelled}}
pub use Rattle.drl_show.specs.{Shown.{InGrammar, IsReadAgain, StandsInGrammar}, Texts.{added, escaped, spaced, joined, token_text}}
