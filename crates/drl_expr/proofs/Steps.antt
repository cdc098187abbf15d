-- The steps of reading an expression, as the code takes them.
use Rattle.drl_expr.proofs.Common.{◌≡◌, ℕ, zero, suc, ◌+◌, ◌-◌, ◌<◌, ◌≤◌, Bool, true, false, List, Some, None, refl, sym, ap, ◌∙◌, arith, TokenKind, Opening}
use Rattle.drl_expr.proofs.Common.{Negative, Parenthesis, Tree, neg, height, Read, ◌>>=◌, opening_at, after_close, atom_at, Operator, ExpressionReader, chained}
use Rattle.drl_expr.{proofs.Common.{factor_step, expr_at, nat_lt, lt-ltb, le-ltb}, specs.Reading.{chain_at, factor_at, inside_at}}

opens : (inside : ExpressionReader) (h : ℕ) (ts : List TokenKind) → 0 < h → factor_at inside h ts ≡ factor_step (opening_at ts) ts (factor_at inside (h - 1)) (inside h)
unfolding factor_at
opens inside zero ts lt = absurd (omega arith)
opens inside (suc h) ts lt = let k : suc h - 1 ≡ h = omega arith in rw k refl

pub factor_zero : (inside : ExpressionReader) (h : ℕ) (ts : List TokenKind) → h ≡ 0 → factor_at inside h ts ≡ None
unfolding factor_at
factor_zero inside zero ts e = refl
factor_zero inside (suc h) ts e = absurd (omega arith)

pub factor_none : (inside : ExpressionReader) (h : ℕ) (ts : List TokenKind) → 0 < h → opening_at ts ≡ None → factor_at inside h ts ≡ atom_at ts
factor_none inside h ts lt e = rw (opens inside h ts lt, e) refl

pub factor_negative : (inside : ExpressionReader) (h : ℕ) (ts rest : List TokenKind) → 0 < h → opening_at ts ≡ Some (Negative, rest) → factor_at inside h ts ≡ (factor_at inside (h - 1) rest >>= λ a. Some (neg a.0, a.1))
factor_negative inside h ts rest lt e = rw (opens inside h ts lt, e) refl

pub factor_parenthesis : (inside : ExpressionReader) (h : ℕ) (ts rest : List TokenKind) → 0 < h → opening_at ts ≡ Some (Parenthesis, rest) → factor_at inside h ts ≡ (inside h rest >>= λ a. after_close a.1 >>= λ behind. Some (a.0, behind))
factor_parenthesis inside h ts rest lt e = rw (opens inside h ts lt, e) refl

pub inside_zero : (d h : ℕ) (ts : List TokenKind) → d ≡ 0 → inside_at d h ts ≡ None
unfolding inside_at
inside_zero zero h ts e = refl
inside_zero (suc d) h ts e = absurd (omega arith)

pub inside_opens : (d h : ℕ) (ts : List TokenKind) → 0 < d → inside_at d h ts ≡ expr_at (inside_at (d - 1)) h ts
unfolding inside_at
inside_opens zero h ts lt = absurd (omega arith)
inside_opens (suc d) h ts lt = let k : suc d - 1 ≡ d = omega arith in rw k refl

-- ---- operands with operators between them

module _ (operator : Operator) (right : ExpressionReader) (h : ℕ) where
  pub no_operand : (ts : List TokenKind) → right h ts ≡ None → chained operator right h ts ≡ None
  no_operand ts e = rw e refl

  pub begins : (ts rest : List TokenKind) (a : Tree) → right h ts ≡ Some (a, rest) → chain_at operator right h (h - 0) a rest ≡ chained operator right h ts
  begins ts rest a e = let k : h - 0 ≡ h = omega arith in rw (k, e) refl

  pub ends : (n : ℕ) (a : Tree) (ts : List TokenKind) (total : Read Tree) → operator ts ≡ None → chain_at operator right h n a ts ≡ total → total ≡ Some (a, ts)
  unfolding chain_at
  ends zero a ts total none so_far = sym so_far ∙ rw none refl
  ends (suc n) a ts total none so_far = sym so_far ∙ rw none refl

  pub too_high : (n : ℕ) (a : Tree) (ts : List TokenKind) (total : Read Tree) (op : (Tree → Tree → Tree) × List TokenKind) → operator ts ≡ Some op → h ≤ height a → chain_at operator right h n a ts ≡ total → total ≡ None
  unfolding chain_at
  too_high zero a ts total op is_op high so_far = sym so_far ∙ rw (is_op, le-ltb (height a) h high) refl
  too_high (suc n) a ts total op is_op high so_far = sym so_far ∙ rw (is_op, le-ltb (height a) h high) refl

  pub no_turn_left : (n : ℕ) (a : Tree) (ts : List TokenKind) (total : Read Tree) (op : (Tree → Tree → Tree) × List TokenKind) → n ≡ 0 → operator ts ≡ Some op → chain_at operator right h n a ts ≡ total → total ≡ None
  unfolding chain_at
  no_turn_left zero a ts total op e is_op so_far = go (nat_lt (height a) h) refl
    where
      go : (b : Bool) → nat_lt (height a) h ≡ b → total ≡ None
      go true lt = sym so_far ∙ rw (is_op, lt) refl
      go false lt = sym so_far ∙ rw (is_op, lt) refl
  no_turn_left (suc n) a ts total op e is_op so_far = absurd (omega arith)

  pub stops : (i : ℕ) (a : Tree) (ts : List TokenKind) (total : Read Tree) (op : (Tree → Tree → Tree) × List TokenKind) → i < h → operator ts ≡ Some op → height a < h → right (h - 1) op.1 ≡ None
      → chain_at operator right h (h - i) a ts ≡ total → total ≡ None
  unfolding chain_at
  stops i a ts total op lt is_op low none so_far =
      let k : h - i ≡ suc (h - (i + 1)) = omega arith in
      let one : chain_at operator right h (h - i) a ts ≡ None = rw (k, is_op, lt-ltb (height a) h low, none) refl in
      sym so_far ∙ one

  pub goes_on : (i : ℕ) (a b : Tree) (ts rest : List TokenKind) (total : Read Tree) (op : (Tree → Tree → Tree) × List TokenKind) → i < h → operator ts ≡ Some op → height a < h → right (h - 1) op.1 ≡ Some (b, rest)
      → chain_at operator right h (h - i) a ts ≡ total → chain_at operator right h (h - (i + 1)) (op.0 a b) rest ≡ total
  unfolding chain_at
  goes_on i a b ts rest total op lt is_op low is_b so_far =
      let k : h - i ≡ suc (h - (i + 1)) = omega arith in
      let one : chain_at operator right h (h - i) a ts ≡ chain_at operator right h (h - (i + 1)) (op.0 a b) rest = rw (k, is_op, lt-ltb (height a) h low, is_b) refl in
      sym one ∙ so_far

-- ---- a factor's exits

pub is_opening : (ts : List TokenKind) (o wanted : Opening) (rest : List TokenKind) → Some (o, rest) ≡ opening_at ts → o ≡ wanted → opening_at ts ≡ Some (wanted, rest)
is_opening ts o wanted rest e is = sym e ∙ ap (λ (k : Opening). Some (k, rest)) is

pub negative_none : (inside : ExpressionReader) (h : ℕ) (ts rest : List TokenKind) → 0 < h → opening_at ts ≡ Some (Negative, rest) → factor_at inside (h - 1) rest ≡ None → None ≡ factor_at inside h ts
negative_none inside h ts rest lt e none = sym (factor_negative inside h ts rest lt e ∙ rw none refl)

pub negative_some : (inside : ExpressionReader) (h : ℕ) (ts rest behind : List TokenKind) (a : Tree) → 0 < h → opening_at ts ≡ Some (Negative, rest) → factor_at inside (h - 1) rest ≡ Some (a, behind) → Some (neg a, behind) ≡ factor_at inside h ts
negative_some inside h ts rest behind a lt e is = sym (factor_negative inside h ts rest lt e ∙ rw is refl)

pub too_deep : (d h : ℕ) (ts rest : List TokenKind) → 0 < h → opening_at ts ≡ Some (Parenthesis, rest) → d ≡ 0 → None ≡ factor_at (inside_at d) h ts
too_deep d h ts rest lt e zero_d = sym (factor_parenthesis (inside_at d) h ts rest lt e ∙ rw (inside_zero d h rest zero_d) refl)

pub parenthesis_none : (d h : ℕ) (ts rest : List TokenKind) → 0 < h → opening_at ts ≡ Some (Parenthesis, rest) → 0 < d → expr_at (inside_at (d - 1)) h rest ≡ None → None ≡ factor_at (inside_at d) h ts
parenthesis_none d h ts rest lt e deep none = sym (factor_parenthesis (inside_at d) h ts rest lt e ∙ rw (inside_opens d h rest deep, none) refl)

pub parenthesis_open : (d h : ℕ) (ts rest behind : List TokenKind) (a : Tree) → 0 < h → opening_at ts ≡ Some (Parenthesis, rest) → 0 < d → expr_at (inside_at (d - 1)) h rest ≡ Some (a, behind) → after_close behind ≡ None → None ≡ factor_at (inside_at d) h ts
parenthesis_open d h ts rest behind a lt e deep is open_still = sym (factor_parenthesis (inside_at d) h ts rest lt e ∙ rw (inside_opens d h rest deep, is, open_still) refl)

pub parenthesis_some : (d h : ℕ) (ts rest behind end : List TokenKind) (a : Tree) → 0 < h → opening_at ts ≡ Some (Parenthesis, rest) → 0 < d → expr_at (inside_at (d - 1)) h rest ≡ Some (a, behind) → after_close behind ≡ Some end → Some (a, end) ≡ factor_at (inside_at d) h ts
parenthesis_some d h ts rest behind end a lt e deep is closes = sym (factor_parenthesis (inside_at d) h ts rest lt e ∙ rw (inside_opens d h rest deep, is, closes) refl)
