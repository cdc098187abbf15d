-- Names from modules that two proofs and more cite, passed on from one place. Declares nothing.
pub use Rattle.std.proofs.Common.{arith, ◌≡◌, length, List, Some, refl, ℕ, ◌∷◌, ◌≤◌, ◌<◌, None, Option, false, true, Bool, [], cond, subst, sym, ◌&&◌, ◌-◌, suc}
pub use Rattle.std.{proofs.{Common.{zero, ◌++◌, ◌+◌, ◌∙◌, ap, append_assoc, ℤ, ◌*◌, ◌||◌}, lemmas.Result.{IfOk-weaker}}, specs.Prelude.{codes, IfSome}}
pub use Rattle.{std.specs.Str.{bytes_eq}, drl_condition.specs.Choices.{PieceReader, after_open, all_at, all_turns, any_at, any_step, any_turns, choice_at}}
pub use Rattle.drl_condition.specs.{Choices.{ends_all}, Reading.{condition_at, disj_at, source_at, accumulate_at, as_operand, binding_at, conj_at, group_at}}
pub use Rattle.drl_condition.specs.{Reading.{number_at, test_operand_at, part_at, result_test_at}, Words.{fold_word, op_word, result_word, window_word}}
pub use Rattle.{drl_condition.specs.declared.words.WindowWord.{WindowWord, TheVariants.{LengthWord, TimeWord}}, drl_expr.specs.Exact.{Found, Read, Phrase}}
pub use Rattle.{drl_expr.specs.Words.{IsIdent}, drl_grammar.specs.Conditions.{IsBinding, IsSource, IsCondition, IsDisj, IsFolded, IsGroup, IsOperand, IsPart}}
pub use Rattle.drl_grammar.specs.Conditions.{IsSpan, fold_text, op_text, result_text, AreAll, AreAny, AreParams, AreResultTests, IsAsked, IsChoice, IsCmp}
pub use Rattle.drl_grammar.specs.{Conditions.{IsConj, IsLiteral, IsName, IsPlace, IsResultTest, IsValueTest, IsWindow}, Shapes.{Listed, Separated, Maybe}}
pub use Rattle.drl_grammar.specs.{Shapes.{left_out, more, single, written}, declared.condition.{Cmp.{Cmp}, CondTree.{CondTree}, FoldWord.{FoldWord}}}
pub use Rattle.drl_grammar.specs.declared.{condition.{Operand.{Operand}, SourceTree.{SourceTree}}, written.Piece.{Piece, TheVariants.{Close, One, Open, Or}}}
pub use Rattle.drl_lex.specs.declared.token.Mark.TheVariants.{OpenParenthesis, CloseParenthesis, Colon, Comma, Comparison, Minus, And, CloseBracket, Dot}
pub use Rattle.drl_lex.specs.declared.token.{Mark.TheVariants.{OpenBracket, Semicolon}, TokenKind.{TokenKind, TheVariants.{Word, Mark, Var, Number, Text}}}
pub use Rattle.drl_phrase.proofs.{NameLaws.{span_exact, name_exact}, ShapeLaws.{same_bytes, then, closed_then, if_some_then, guarded, ident_is, ident_then}}
pub use Rattle.drl_phrase.proofs.ShapeLaws.{separated_exact, listed_exact, Begins, choice, closed_is, itself, maybe_again, maybe_shorter, maybe_sound}
pub use Rattle.drl_phrase.proofs.{ShapeLaws.{whole_found, whole_none, word_again, word_sound}, Turns.{begins, ends, goes_on, no_first, no_turn_left, stops}}
pub use Rattle.drl_phrase.specs.{Exact.{phrase_binds, ExactPhrase}, Reading.{separated_at, with_front, listed_at, ◌>>=◌, span_at, after, after_word, maybe_at}}
pub use Rattle.{drl_phrase.specs.Reading.{more_at, name_at}, temporal_ops.specs.declared.word.OpWord.{OpWord}}
