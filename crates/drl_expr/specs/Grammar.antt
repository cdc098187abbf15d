-- The grammar of expressions, by one case for each line and each alternative of it. The number says how deep parentheses may still go.
use Rattle.std.specs.Prelude.{ℕ, suc, ◌≤◌, List, ◌∷◌, pos, true, false, codes}
use Rattle.drl_lex.specs.declared.token.{TokenKind.{TokenKind, TheVariants.{Word, Var, Number, Text, Mark}}, Mark.TheVariants.{OpenParenthesis}}
use Rattle.drl_lex.specs.declared.token.Mark.TheVariants.{CloseParenthesis, Dot, Plus, Minus, Star}
use Rattle.drl_expr.specs.declared.literal.LitTree.TheVariants as l
use Rattle.drl_expr.specs.{Tree.{Tree, lit, var, var_field, neg, add, sub, mul, height}, Words.{IsIdent}}

mutual
  -- expr := term (('+' | '-') term)*, grouped to the left
  pub data IsExpr : ℕ → Tree → List TokenKind → List TokenKind → Type 0 where
    term : {d : ℕ} {a : Tree} {ts rest : List TokenKind} → IsTerm d a ts rest → IsExpr d a ts rest
    plus : {d : ℕ} {a b : Tree} {ts middle rest : List TokenKind} → IsExpr d a ts (Mark Plus ∷ middle) → IsTerm d b middle rest → IsExpr d (add a b) ts rest
    minus : {d : ℕ} {a b : Tree} {ts middle rest : List TokenKind} → IsExpr d a ts (Mark Minus ∷ middle) → IsTerm d b middle rest → IsExpr d (sub a b) ts rest

  -- term := factor ('*' factor)*, grouped to the left
  pub data IsTerm : ℕ → Tree → List TokenKind → List TokenKind → Type 0 where
    factor : {d : ℕ} {a : Tree} {ts rest : List TokenKind} → IsFactor d a ts rest → IsTerm d a ts rest
    times : {d : ℕ} {a b : Tree} {ts middle rest : List TokenKind} → IsTerm d a ts (Mark Star ∷ middle) → IsFactor d b middle rest → IsTerm d (mul a b) ts rest

  -- factor := '-' factor | '(' expr ')' | Number | Text | 'true' | 'false' | Var | Var '.' Ident
  pub data IsFactor : ℕ → Tree → List TokenKind → List TokenKind → Type 0 where
    negative : {d : ℕ} {a : Tree} {ts rest : List TokenKind} → IsFactor d a ts rest → IsFactor d (neg a) (Mark Minus ∷ ts) rest
    parens : {d : ℕ} {a : Tree} {ts rest : List TokenKind} → IsExpr d a ts (Mark CloseParenthesis ∷ rest) → IsFactor (suc d) a (Mark OpenParenthesis ∷ ts) rest
    number : {d n : ℕ} {rest : List TokenKind} → IsFactor d (lit (l.Int (pos n))) (Number n ∷ rest) rest
    text : {d : ℕ} {s : List ℕ} {rest : List TokenKind} → IsFactor d (lit (l.Text s)) (Text s ∷ rest) rest
    yes_word : {d : ℕ} {rest : List TokenKind} → IsFactor d (lit (l.Bool true)) (Word (codes "true") ∷ rest) rest
    no_word : {d : ℕ} {rest : List TokenKind} → IsFactor d (lit (l.Bool false)) (Word (codes "false") ∷ rest) rest
    variable : {d : ℕ} {v : List ℕ} {rest : List TokenKind} → IsFactor d (var v) (Var v ∷ rest) rest
    field_of : {d : ℕ} {v f : List ℕ} {rest : List TokenKind} → IsIdent f → IsFactor d (var_field v f) (Var v ∷ Mark Dot ∷ Word f ∷ rest) rest

-- an expression of height at most 32 with parentheses at most 32 deep
abbrev pub IsExpression : Tree → List TokenKind → List TokenKind → Type 0
IsExpression a ts rest = IsExpr 32 a ts rest × (height a ≤ 32)
