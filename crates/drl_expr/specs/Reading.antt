-- Reading an expression: the tree and what follows.
use Rattle.std.specs.Prelude.{ℕ, zero, suc, ◌-◌, nat_lt, List, ◌∷◌, pos, Option, Some, None, option_and_then, true, false, if◌then◌else◌, codes}
use Rattle.std.specs.Str.{bytes_eq}
use Rattle.drl_lex.specs.declared.token.{TokenKind.{TokenKind, TheVariants.{Word, Var, Number, Text, Mark}}, Mark.TheVariants.{OpenParenthesis}}
use Rattle.drl_lex.specs.declared.token.Mark.TheVariants.{CloseParenthesis, Dot, Plus, Minus, Star}
use Rattle.drl_expr.specs.declared.literal.LitTree.TheVariants as l
use Rattle.drl_expr.specs.declared.marks.{Operation.{Operation, TheVariants.{Sum, Difference, Product}}, Level.{Level, TheVariants.{Sums, Products}}}
use Rattle.drl_expr.specs.{declared.marks.Opening.{Opening, TheVariants.{Negative, Parenthesis}}, Tree.{Tree, lit, var, var_field, neg, add, sub, mul, height}}
use Rattle.drl_expr.specs.{Words.{is_ident}, Exact.{Read}}

infixl 10 ◌>>=◌
abbrev pub ◌>>=◌ : {A B : Type 0} → Option A → (A → Option B) → Option B
o >>= f = option_and_then f o

-- an operator of a sum or of a product, and what follows it
abbrev pub Operator : Type 0
Operator = List TokenKind → Option ((Tree → Tree → Tree) × List TokenKind)

unfoldable pub plus_at : Operator
plus_at (Mark Plus ∷ rest) = Some (add, rest)
plus_at (Mark Minus ∷ rest) = Some (sub, rest)
plus_at ts = None

unfoldable pub star_at : Operator
star_at (Mark Star ∷ rest) = Some (mul, rest)
star_at ts = None

-- how an expression of at most this height is read
abbrev pub ExpressionReader : Type 0
ExpressionReader = ℕ → List TokenKind → Read Tree

abbrev pub chain_step : ℕ → Tree → List TokenKind → Option ((Tree → Tree → Tree) × List TokenKind) → (List TokenKind → Read Tree) → (Tree → List TokenKind → Read Tree) → Read Tree
chain_step h a ts None right go = Some (a, ts)
chain_step h a ts (Some op) right go = if nat_lt (height a) h then (right op.1 >>= λ b. go (op.0 a b.0) b.1) else None

-- What stands behind the first operand. Each turn makes the tree higher, so the height bounds the turns.
unfoldable pub chain_at : Operator → ExpressionReader → ℕ → ℕ → Tree → List TokenKind → Read Tree
chain_at operator right h zero a ts = chain_step h a ts (operator ts) (λ ts. None) (λ b ts. None)
chain_at operator right h (suc n) a ts = chain_step h a ts (operator ts) (right (h - 1)) (chain_at operator right h n)

abbrev pub chained : Operator → ExpressionReader → ExpressionReader
chained operator operand h ts = operand h ts >>= λ a. chain_at operator operand h h a.0 a.1

unfoldable pub opening_at : List TokenKind → Option (Opening × List TokenKind)
opening_at (Mark Minus ∷ rest) = Some (Negative, rest)
opening_at (Mark OpenParenthesis ∷ rest) = Some (Parenthesis, rest)
opening_at ts = None

unfoldable pub after_close : List TokenKind → Option (List TokenKind)
after_close (Mark CloseParenthesis ∷ rest) = Some rest
after_close ts = None

-- a literal or a variable
unfoldable pub atom_at : List TokenKind → Read Tree
atom_at (Number n ∷ rest) = Some (lit (l.Int (pos n)), rest)
atom_at (Text s ∷ rest) = Some (lit (l.Text s), rest)
atom_at (Word w ∷ rest) = if bytes_eq w (codes "true") then Some (lit (l.Bool true), rest) else if bytes_eq w (codes "false") then Some (lit (l.Bool false), rest) else None
atom_at (Var v ∷ Mark Dot ∷ Word f ∷ rest) = if is_ident f then Some (var_field v f, rest) else None
atom_at (Var v ∷ Mark Dot ∷ rest) = None
atom_at (Var v ∷ rest) = Some (var v, rest)
atom_at ts = None

-- a factor, given how to read a factor one lower, and an expression within parentheses
abbrev pub factor_step : Option (Opening × List TokenKind) → List TokenKind → (List TokenKind → Read Tree) → (List TokenKind → Read Tree) → Read Tree
factor_step None ts lower inside = atom_at ts
factor_step (Some (Negative, rest)) ts lower inside = lower rest >>= λ a. Some (neg a.0, a.1)
factor_step (Some (Parenthesis, rest)) ts lower inside = inside rest >>= λ a. after_close a.1 >>= λ behind. Some (a.0, behind)

unfoldable pub factor_at : ExpressionReader → ExpressionReader
factor_at inside zero ts = None
factor_at inside (suc h) ts = factor_step (opening_at ts) ts (factor_at inside h) (inside (suc h))

unfoldable pub term_at : ExpressionReader → ExpressionReader
term_at inside = chained star_at (factor_at inside)

unfoldable pub expr_at : ExpressionReader → ExpressionReader
expr_at inside = chained plus_at (term_at inside)

-- what stands in parentheses, at most so deep
unfoldable pub inside_at : ℕ → ExpressionReader
inside_at zero h ts = None
inside_at (suc d) h ts = expr_at (inside_at d) h ts

-- an expression at the front, at most 32 high and with parentheses at most 32 deep
unfoldable pub expression_at : List TokenKind → Read Tree
expression_at ts = expr_at (inside_at 32) 32 ts

-- the operators as the code has them
abbrev pub joined : Operation → Tree → Tree → Tree
joined Sum a b = add a b
joined Difference a b = sub a b
joined Product a b = mul a b

-- the operators of a level, and the operands between them
abbrev pub operator_at : Level → Operator
operator_at Sums = plus_at
operator_at Products = star_at

abbrev pub operand_at : Level → ExpressionReader → ExpressionReader
operand_at Sums inside = term_at inside
operand_at Products inside = factor_at inside

abbrev pub level_at : Level → ExpressionReader → ExpressionReader
level_at level inside = chained (operator_at level) (operand_at level inside)

-- a sum stands above a product
abbrev pub rank : Level → ℕ
rank Sums = 1
rank Products = 0
