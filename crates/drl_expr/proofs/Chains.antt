-- Operands with operators between them, grouped to the left: what is read stands in the grammar, and what stands in it is read.
use Rattle.drl_expr.proofs.Common.{◌≡◌, ℕ, zero, suc, ◌+◌, ◌-◌, ◌<◌, ◌≤◌, max, Bool, true, false, cond, List, ◌∷◌, Option, Some, None, refl, ◌∙◌, arith, nat_lt}
use Rattle.drl_expr.proofs.Common.{ltb-true, lt-ltb, TokenKind, Mark, CloseParenthesis, Tree, height, Read, Phrase, Found, ◌>>=◌, Operator, ExpressionReader}
use Rattle.drl_expr.{proofs.Common.{chain_step, chained}, specs.Reading.{after_close, chain_at}}

-- a phrase is read first, then what go reads
pub then : (Is : Phrase Tree) (ts : List TokenKind) (o : Read Tree) (go : Tree × List TokenKind → Read Tree) (Wanted : Phrase Tree) (whole : List TokenKind)
    → Found Is ts o → ((x : Tree × List TokenKind) → Is x.0 ts x.1 → Found Wanted whole (go x)) → Found Wanted whole (o >>= go)
then Is ts None go Wanted whole h k = tt
then Is ts (Some x) go Wanted whole h k = k x h

pub closed_then : (Is : Phrase Tree) (y : Tree) (ts : List TokenKind) (x : Tree) (behind : List TokenKind) (Wanted : Phrase Tree) (whole : List TokenKind)
    → Is y ts behind → ((rest : List TokenKind) → Is y ts (Mark CloseParenthesis ∷ rest) → Wanted x whole rest) → Found Wanted whole (after_close behind >>= λ rest. Some (x, rest))
unfolding after_close
closed_then Is y ts x (Mark CloseParenthesis ∷ rest) Wanted whole h go = go rest h
closed_then Is y ts x behind Wanted whole h go = tt

-- what stands there, and is at most so high
abbrev pub Low : Phrase Tree → ℕ → Phrase Tree
Low Is h a ts rest = Is a ts rest × (height a ≤ h)

-- an operator joins a phrase and an operand to a phrase that is one higher than the higher of them
abbrev pub Joins : Phrase Tree → Phrase Tree → List TokenKind → Option ((Tree → Tree → Tree) × List TokenKind) → Type 0
Joins Is Right at None = Unit {0}
Joins Is Right at (Some op) = (a b : Tree) (ts rest : List TokenKind) → Is a ts at → Right b op.1 rest → Is (op.0 a b) ts rest × (height (op.0 a b) ≡ max (height a) (height b) + 1)

under : (h : ℕ) (a : Tree) (low : Bool) → nat_lt (height a) h ≡ low → (Wanted : Phrase Tree) (whole : List TokenKind) (o : Read Tree) → (height a < h → Found Wanted whole o) → Found Wanted whole (cond low o None)
under h a true e Wanted whole o go = go (ltb-true (height a) h e)
under h a false e Wanted whole o go = tt

step_sound : (Is Right : Phrase Tree) (h : ℕ) (a : Tree) (ts at : List TokenKind) (o : Option ((Tree → Tree → Tree) × List TokenKind)) (right : List TokenKind → Read Tree) (go : Tree → List TokenKind → Read Tree)
    → Joins Is Right at o → ((ts : List TokenKind) → Found (Low Right (h - 1)) ts (right ts)) → ((b : Tree) (at : List TokenKind) → Low Is h b ts at → Found (Low Is h) ts (go b at)) → Low Is h a ts at
    → Found (Low Is h) ts (chain_step h a at o right go)
step_sound Is Right h a ts at None right go joins sound on ha = ha
step_sound Is Right h a ts at (Some op) right go joins sound on ha = under h a (nat_lt (height a) h) refl (Low Is h) ts _ (λ lt.
    then (Low Right (h - 1)) op.1 (right op.1) _ (Low Is h) ts (sound op.1) (λ b hb.
    let joined = joins a b.0 ts b.1 ha.0 hb.0 in
    on (op.0 a b.0) b.1 (joined.0, omega arith)))

pub chain_sound : (operator : Operator) (right : ExpressionReader) (Is Right : Phrase Tree) (h n : ℕ) → ((at : List TokenKind) → Joins Is Right at (operator at)) → ((h : ℕ) (ts : List TokenKind) → Found (Low Right h) ts (right h ts))
    → (a : Tree) (ts at : List TokenKind) → Low Is h a ts at → Found (Low Is h) ts (chain_at operator right h n a at)
unfolding chain_at
chain_sound operator right Is Right h zero joins sound a ts at ha = step_sound Is Right h a ts at (operator at) (λ ts. None) (λ b ts. None) (joins at) (λ ts. tt) (λ b at hb. tt) ha
chain_sound operator right Is Right h (suc n) joins sound a ts at ha =
    step_sound Is Right h a ts at (operator at) (right (h - 1)) (chain_at operator right h n) (joins at) (sound (h - 1)) (λ b at hb. chain_sound operator right Is Right h n joins sound b ts at hb) ha

pub chain_ends : (operator : Operator) (right : ExpressionReader) (h n : ℕ) (a : Tree) (at : List TokenKind) → operator at ≡ None → chain_at operator right h n a at ≡ Some (a, at)
unfolding chain_at
chain_ends operator right h zero a at e = rw e refl
chain_ends operator right h (suc n) a at e = rw e refl

-- the reading has come so far: the tree to the left is read, and enough turns are left
pub record Left (operator : Operator) (right : ExpressionReader) (h : ℕ) (total : Read Tree) (a : Tree) (at : List TokenKind) : Type 0 where
  pub turns : ℕ
  pub enough : h ≤ turns + height a
  pub goes_on : total ≡ chain_at operator right h turns a at

pub chain_done : {operator : Operator} {right : ExpressionReader} {h : ℕ} {total : Read Tree} {a : Tree} {at : List TokenKind} → Left operator right h total a at → operator at ≡ None → total ≡ Some (a, at)
chain_done {operator} {right} {h} {a} {at} left e = left.goes_on ∙ chain_ends operator right h left.turns a at e

turn : (operator : Operator) (right : ExpressionReader) (h n : ℕ) (total : Read Tree) (a b : Tree) (at middle rest : List TokenKind) (f : Tree → Tree → Tree) → operator at ≡ Some (f, middle)
    → height (f a b) ≡ max (height a) (height b) + 1 → height (f a b) ≤ h → right (h - 1) middle ≡ Some (b, rest) → h ≤ n + height a → total ≡ chain_at operator right h n a at → Left operator right h total (f a b) rest
unfolding chain_at
turn operator right h zero total a b at middle rest f is_op high low is_right enough so_far = absurd (omega arith)
turn operator right h (suc n) total a b at middle rest f is_op high low is_right enough so_far =
    let lt : nat_lt (height a) h ≡ true = lt-ltb (height a) h (omega arith) in
    record { turns = n; enough = omega arith; goes_on = so_far ∙ rw (is_op, lt, is_right) refl }

pub chain_turn : {operator : Operator} {right : ExpressionReader} {h : ℕ} {total : Read Tree} {a b : Tree} {at middle rest : List TokenKind} {f : Tree → Tree → Tree} → operator at ≡ Some (f, middle)
    → height (f a b) ≡ max (height a) (height b) + 1 → height (f a b) ≤ h → right (h - 1) middle ≡ Some (b, rest) → Left operator right h total a at → Left operator right h total (f a b) rest
chain_turn {operator} {right} {h} {total} {a} {b} {at} {middle} {rest} {f} is_op high low is_right left =
    turn operator right h left.turns total a b at middle rest f is_op high low is_right left.enough left.goes_on

pub chain_starts : (operator : Operator) (operand : ExpressionReader) (h : ℕ) (ts rest : List TokenKind) (a : Tree) → operand h ts ≡ Some (a, rest) → Left operator operand h (chained operator operand h ts) a rest
chain_starts operator operand h ts rest a e = record { turns = h; enough = omega arith; goes_on = rw e refl }
