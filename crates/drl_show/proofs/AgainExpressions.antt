-- The tokens of an expression stand for it again: parentheses are never deeper than the tree is high.
use Rattle.drl_show.proofs.Common.{◌≡◌, ℕ, zero, suc, pos, negsuc, ◌≤◌, Bool, true, false, List, [], ◌∷◌, ◌++◌, refl, sym, subst, append_assoc, arith, list_all}
use Rattle.drl_show.proofs.Common.{TokenKind, Word, Var, Number, Text, Mark, OpenParenthesis, CloseParenthesis, Dot, Minus, height, IsIdent, literal_tokens}
use Rattle.drl_show.proofs.Common.{expr_tokens, Plus, Star, Tree, lit, var, var_field, neg, add, sub, mul, joins, enclosed, enclosed_tokens}
use Rattle.{drl_lex.specs.Bytes.{begins_word, is_word_byte}, drl_expr.specs.declared.literal.LitTree.{LitTree}}
use Rattle.drl_expr.specs.declared.literal.LitTree.TheVariants as l
use Rattle.drl_expr.specs.Grammar as g
use Rattle.{drl_expr.specs.Grammar.{IsExpr, IsTerm, IsFactor, IsExpression}, drl_show.proofs.Fine.{Good, AllGood, fine, fine_word, fine_var, fine_number}}
use Rattle.drl_show.proofs.{Fine.{fine_text, fine_append}, AgainShapes.{Agains, regroup}}

-- ---- what an expression in the grammar is made of

abbrev LiteralGood : LitTree → Type 0
LiteralGood (l.Int (pos n)) = Good (Number n)
LiteralGood (l.Int (negsuc n)) = ⊥
LiteralGood (l.Bool b) = Unit {0}
LiteralGood (l.Text s) = Good (Text s)

abbrev TreeGood : Tree → Type 0
TreeGood (lit v) = LiteralGood v
TreeGood (var v) = Good (Var v)
TreeGood (var_field v f) = Good (Var v) × (Good (Word f) × IsIdent f)
TreeGood (neg a) = TreeGood a
TreeGood (add a b) = TreeGood a × TreeGood b
TreeGood (sub a b) = TreeGood a × TreeGood b
TreeGood (mul a b) = TreeGood a × TreeGood b

mutual
  expr_good : {d : ℕ} {a : Tree} {ts rest : List TokenKind} → IsExpr d a ts rest → AllGood ts → TreeGood a × AllGood rest
  expr_good (g.term h) good = term_good h good
  expr_good (g.plus ha hb) good = let left = expr_good ha good in let right = term_good hb left.1.1 in ((left.0, right.0), right.1)
  expr_good (g.minus ha hb) good = let left = expr_good ha good in let right = term_good hb left.1.1 in ((left.0, right.0), right.1)

  term_good : {d : ℕ} {a : Tree} {ts rest : List TokenKind} → IsTerm d a ts rest → AllGood ts → TreeGood a × AllGood rest
  term_good (g.factor h) good = factor_good h good
  term_good (g.times ha hb) good = let left = term_good ha good in let right = factor_good hb left.1.1 in ((left.0, right.0), right.1)

  factor_good : {d : ℕ} {a : Tree} {ts rest : List TokenKind} → IsFactor d a ts rest → AllGood ts → TreeGood a × AllGood rest
  factor_good (g.negative h) good = factor_good h good.1
  factor_good (g.parens h) good = let inner = expr_good h good.1 in (inner.0, inner.1.1)
  factor_good g.number good = good
  factor_good g.text good = good
  factor_good g.yes_word good = (tt, good.1)
  factor_good g.no_word good = (tt, good.1)
  factor_good g.variable good = good
  factor_good (g.field_of h) good = ((good.0, (good.1.1.0, h)), good.1.1.1)

-- ---- its tokens

enclosed_fine : (b : Bool) (ts : List TokenKind) → list_all fine ts ≡ true → list_all fine (enclosed b ts) ≡ true
enclosed_fine true ts h = fine_append ts (Mark CloseParenthesis ∷ []) h refl
enclosed_fine false ts h = h

literal_fine : (v : LitTree) → LiteralGood v → list_all fine (literal_tokens v) ≡ true
unfolding begins_word is_word_byte
literal_fine (l.Int (pos n)) good = fine_number n [] good refl
literal_fine (l.Int (negsuc n)) good = absurd good
literal_fine (l.Bool true) good = refl
literal_fine (l.Bool false) good = refl
literal_fine (l.Text s) good = fine_text s [] good refl

expr_fine : (a : Tree) → TreeGood a → list_all fine (expr_tokens a) ≡ true
expr_fine (lit v) good = literal_fine v good
expr_fine (var v) good = fine_var v [] good refl
expr_fine (var_field v f) good = fine_var v (Mark Dot ∷ Word f ∷ []) good.0 (fine_word f [] good.1.1 good.1.0 refl)
expr_fine (neg a) good = enclosed_fine (joins a) (expr_tokens a) (expr_fine a good)
expr_fine (add a b) good = fine_append (enclosed_tokens a) (Mark Plus ∷ enclosed_tokens b) (enclosed_fine (joins a) (expr_tokens a) (expr_fine a good.0)) (enclosed_fine (joins b) (expr_tokens b) (expr_fine b good.1))
expr_fine (sub a b) good = fine_append (enclosed_tokens a) (Mark Minus ∷ enclosed_tokens b) (enclosed_fine (joins a) (expr_tokens a) (expr_fine a good.0)) (enclosed_fine (joins b) (expr_tokens b) (expr_fine b good.1))
expr_fine (mul a b) good = fine_append (enclosed_tokens a) (Mark Star ∷ enclosed_tokens b) (enclosed_fine (joins a) (expr_tokens a) (expr_fine a good.0)) (enclosed_fine (joins b) (expr_tokens b) (expr_fine b good.1))

positive : (a : Tree) → 1 ≤ height a
positive (lit v) = omega arith
positive (var s) = omega arith
positive (var_field s f) = omega arith
positive (neg a) = omega arith
positive (add a b) = omega arith
positive (sub a b) = omega arith
positive (mul a b) = omega arith

literal_stands : (d : ℕ) (v : LitTree) (k : List TokenKind) → LiteralGood v → IsFactor d (lit v) (literal_tokens v ++ k) k
literal_stands d (l.Int (pos n)) k good = g.number
literal_stands d (l.Int (negsuc n)) k good = absurd good
literal_stands d (l.Bool true) k good = g.yes_word
literal_stands d (l.Bool false) k good = g.no_word
literal_stands d (l.Text s) k good = g.text

in_parens : (d : ℕ) (a : Tree) (k : List TokenKind) → ((d : ℕ) (k : List TokenKind) → height a ≤ suc d → IsExpr d a (expr_tokens a ++ k) k) → height a ≤ d → IsFactor d a ((Mark OpenParenthesis ∷ (expr_tokens a ++ (Mark CloseParenthesis ∷ []))) ++ k) k
in_parens zero a k inner low = let some = positive a in absurd (omega arith)
in_parens (suc d) a k inner low = regroup (IsFactor (suc d)) a (Mark OpenParenthesis ∷ expr_tokens a) (Mark CloseParenthesis ∷ []) k (g.parens (inner d (Mark CloseParenthesis ∷ k) low))

-- two operands with a mark between them
between : (d : ℕ) (whole : Tree) (left right k : List TokenKind) (t : TokenKind) → IsExpr d whole (left ++ (t ∷ (right ++ k))) k → IsExpr d whole ((left ++ (t ∷ right)) ++ k) k
between d whole left right k t h = subst (λ (ts : List TokenKind). IsExpr d whole ts k) (sym (append_assoc left (t ∷ right) k)) h

mutual
  expr_stands : (a : Tree) → TreeGood a → (d : ℕ) (k : List TokenKind) → height a ≤ suc d → IsExpr d a (expr_tokens a ++ k) k
  expr_stands (lit v) good d k low = g.term (g.factor (literal_stands d v k good))
  expr_stands (var v) good d k low = g.term (g.factor g.variable)
  expr_stands (var_field v f) good d k low = g.term (g.factor (g.field_of good.1.1))
  expr_stands (neg a) good d k low = g.term (g.factor (g.negative (operand_stands a good d k (omega arith))))
  expr_stands (add a b) good d k low = between d (add a b) (enclosed_tokens a) (enclosed_tokens b) k (Mark Plus)
      (g.plus (g.term (g.factor (operand_stands a good.0 d (Mark Plus ∷ (enclosed_tokens b ++ k)) (omega arith)))) (g.factor (operand_stands b good.1 d k (omega arith))))
  expr_stands (sub a b) good d k low = between d (sub a b) (enclosed_tokens a) (enclosed_tokens b) k (Mark Minus)
      (g.minus (g.term (g.factor (operand_stands a good.0 d (Mark Minus ∷ (enclosed_tokens b ++ k)) (omega arith)))) (g.factor (operand_stands b good.1 d k (omega arith))))
  expr_stands (mul a b) good d k low = between d (mul a b) (enclosed_tokens a) (enclosed_tokens b) k (Mark Star)
      (g.term (g.times (g.factor (operand_stands a good.0 d (Mark Star ∷ (enclosed_tokens b ++ k)) (omega arith))) (operand_stands b good.1 d k (omega arith))))

  operand_stands : (a : Tree) → TreeGood a → (d : ℕ) (k : List TokenKind) → height a ≤ d → IsFactor d a (enclosed_tokens a ++ k) k
  operand_stands (lit v) good d k low = literal_stands d v k good
  operand_stands (var v) good d k low = g.variable
  operand_stands (var_field v f) good d k low = g.field_of good.1.1
  operand_stands (neg a) good d k low = g.negative (operand_stands a good d k (omega arith))
  operand_stands (add a b) good d k low = in_parens d (add a b) k (λ d k low. between d (add a b) (enclosed_tokens a) (enclosed_tokens b) k (Mark Plus)
      (g.plus (g.term (g.factor (operand_stands a good.0 d (Mark Plus ∷ (enclosed_tokens b ++ k)) (omega arith)))) (g.factor (operand_stands b good.1 d k (omega arith))))) low
  operand_stands (sub a b) good d k low = in_parens d (sub a b) k (λ d k low. between d (sub a b) (enclosed_tokens a) (enclosed_tokens b) k (Mark Minus)
      (g.minus (g.term (g.factor (operand_stands a good.0 d (Mark Minus ∷ (enclosed_tokens b ++ k)) (omega arith)))) (g.factor (operand_stands b good.1 d k (omega arith))))) low
  operand_stands (mul a b) good d k low = in_parens d (mul a b) k (λ d k low. between d (mul a b) (enclosed_tokens a) (enclosed_tokens b) k (Mark Star)
      (g.term (g.times (g.factor (operand_stands a good.0 d (Mark Star ∷ (enclosed_tokens b ++ k)) (omega arith))) (operand_stands b good.1 d k (omega arith))))) low

pub expression_again : Agains IsExpression IsExpression expr_tokens
expression_again x ts rest h good =
    let parts = expr_good h.0 good in
    let low = h.1 in
    record { stands = λ k. (expr_stands x parts.0 32 k (omega arith), low); is_fine = expr_fine x parts.0; behind = parts.1 }
