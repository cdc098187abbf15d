-- Names from modules that two proofs and more cite, passed on from one place. Declares nothing.
pub use Rattle.std.proofs.Common.{◌-◌, ◌≤◌, arith, ◌≡◌, Bool, List, None, Option, Some, false, refl, suc, sym, true, zero, ℕ, ◌+◌, ◌<◌, ◌∙◌, ap, cond, ◌∷◌, []}
pub use Rattle.std.{proofs.{Common.{length, max, subst, ◌*◌}, lemmas.Bool.{lt-ltb, le-ltb, ltb-true}}, specs.Prelude.{nat_lt, IfSome, codes}}
pub use Rattle.drl_expr.specs.{Exact.{Read, Found, Phrase, Exact, expression_binds}, Reading.{ExpressionReader, Operator, chained, factor_step, inside_at}}
pub use Rattle.drl_expr.specs.Reading.{operand_at, operator_at, ◌>>=◌, after_close, atom_at, chain_at, chain_step, expr_at, level_at, opening_at, rank}
pub use Rattle.drl_expr.specs.{Tree.{Tree, height, neg, add, lit, mul, sub, var, var_field}, declared.marks.Opening.{Opening, TheVariants.{Negative}}}
pub use Rattle.{drl_expr.specs.declared.marks.Opening.TheVariants.{Parenthesis}, drl_lex.specs.declared.token.Mark.TheVariants.{CloseParenthesis, Dot, Minus}}
pub use Rattle.drl_lex.specs.declared.token.{Mark.TheVariants.{OpenParenthesis, Plus, Star}, TokenKind.{TokenKind, TheVariants.{Mark, Number, Text, Var, Word}}}
