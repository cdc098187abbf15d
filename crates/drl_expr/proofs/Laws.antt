-- What is read as an expression stands in the grammar, and what stands in it is read.
use Rattle.drl_expr.proofs.Common.{◌≡◌, ℕ, zero, suc, ◌-◌, ◌<◌, ◌≤◌, Bool, true, false, cond, List, [], ◌∷◌, length, Option, Some, None, refl, sym, ap, subst}
use Rattle.drl_expr.proofs.Common.{◌∙◌, arith, IfSome, codes, TokenKind, Word, Var, Number, Text, Mark, OpenParenthesis, CloseParenthesis, Dot, Plus, Minus}
use Rattle.drl_expr.proofs.Common.{Star, Opening, Negative, Parenthesis, Tree, lit, var, var_field, neg, add, sub, mul, height, Read, Phrase, Found}
use Rattle.{drl_expr.proofs.Common.{expression_binds, Exact, ExpressionReader, factor_step}, std.specs.Str.{bytes_eq}}
use Rattle.std.proofs.lemmas.Slice.Eq.{bytes_eq-Decides}
use Rattle.drl_expr.specs.declared.literal.LitTree.TheVariants as l
use Rattle.drl_expr.specs.Words.{is_ident}
use Rattle.drl_expr.specs.Grammar as g
use Rattle.drl_expr.specs.{Grammar.{IsExpr, IsTerm, IsFactor, IsExpression}, Reading.{opening_at, after_close, atom_at, plus_at, star_at, factor_at, term_at}}
use Rattle.drl_expr.{specs.Reading.{expr_at, inside_at, expression_at}, proofs.Chains.{then, closed_then, Low, Joins, chain_sound, Left, chain_done}}
use Rattle.drl_expr.proofs.Chains.{chain_turn, chain_starts}

-- ---- what is read stands in the grammar

plus_joins : (d : ℕ) (at : List TokenKind) → Joins (IsExpr d) (IsTerm d) at (plus_at at)
unfolding plus_at
plus_joins d (Mark Plus ∷ rest) = λ a b ts rest ha hb. (g.plus ha hb, refl)
plus_joins d (Mark Minus ∷ rest) = λ a b ts rest ha hb. (g.minus ha hb, refl)
plus_joins d at = tt

star_joins : (d : ℕ) (at : List TokenKind) → Joins (IsTerm d) (IsFactor d) at (star_at at)
unfolding star_at
star_joins d (Mark Star ∷ rest) = λ a b ts rest ha hb. (g.times ha hb, refl)
star_joins d at = tt

words_sound : (d h : ℕ) (w : List ℕ) (rest : List TokenKind) (t f : Bool) → bytes_eq w (codes "true") ≡ t → bytes_eq w (codes "false") ≡ f
    → Found (Low (IsFactor d) (suc h)) (Word w ∷ rest) (cond t (Some (lit (l.Bool true), rest)) (cond f (Some (lit (l.Bool false), rest)) None))
words_sound d h w rest true f is_true is_false = rw ((bytes_eq-Decides w (codes "true")).0 is_true) (g.yes_word, omega arith)
words_sound d h w rest false true is_true is_false = rw ((bytes_eq-Decides w (codes "false")).0 is_false) (g.no_word, omega arith)
words_sound d h w rest false false is_true is_false = tt

field_sound : (d h : ℕ) (v f : List ℕ) (rest : List TokenKind) (b : Bool) → is_ident f ≡ b → Found (Low (IsFactor d) (suc h)) (Var v ∷ Mark Dot ∷ Word f ∷ rest) (cond b (Some (var_field v f, rest)) None)
field_sound d h v f rest true e = (g.field_of e, omega arith)
field_sound d h v f rest false e = tt

-- an expression within parentheses, of which at most d may still stand one in another
abbrev Within : ℕ → Phrase Tree
Within zero a ts rest = ⊥
Within (suc d) a ts rest = IsExpr d a ts rest

in_parens : (d : ℕ) (a : Tree) (ts rest : List TokenKind) → Within d a ts (Mark CloseParenthesis ∷ rest) → IsFactor d a (Mark OpenParenthesis ∷ ts) rest
in_parens zero a ts rest h = absurd h
in_parens (suc d) a ts rest h = g.parens h

atom_sound : (d h : ℕ) (ts : List TokenKind) → Found (Low (IsFactor d) (suc h)) ts (atom_at ts)
unfolding atom_at
atom_sound d h (Number n ∷ rest) = (g.number, omega arith)
atom_sound d h (Text s ∷ rest) = (g.text, omega arith)
atom_sound d h (Word w ∷ rest) = words_sound d h w rest (bytes_eq w (codes "true")) (bytes_eq w (codes "false")) refl refl
atom_sound d h (Var v ∷ Mark Dot ∷ Word f ∷ rest) = field_sound d h v f rest (is_ident f) refl
atom_sound d h (Var v ∷ Mark Dot ∷ rest) = tt
atom_sound d h (Var v ∷ rest) = (g.variable, omega arith)
atom_sound d h ts = tt

abbrev opening_mark : Opening → TokenKind
opening_mark Negative = Mark Minus
opening_mark Parenthesis = Mark OpenParenthesis

opening_sound : (ts : List TokenKind) → IfSome (opening_at ts) (λ o. ts ≡ opening_mark o.0 ∷ o.1)
unfolding opening_at
opening_sound (Mark Minus ∷ rest) = refl
opening_sound (Mark OpenParenthesis ∷ rest) = refl
opening_sound ts = tt

step_sound : (d h : ℕ) (o : Option (Opening × List TokenKind)) (ts : List TokenKind) (lower inside : List TokenKind → Read Tree) → IfSome o (λ o. ts ≡ opening_mark o.0 ∷ o.1)
    → ((ts : List TokenKind) → Found (Low (IsFactor d) h) ts (lower ts)) → ((ts : List TokenKind) → Found (Low (Within d) (suc h)) ts (inside ts)) → Found (Low (IsFactor d) (suc h)) ts (factor_step o ts lower inside)
step_sound d h None ts lower inside e low within = atom_sound d h ts
step_sound d h (Some (Negative, rest)) ts lower inside e low within = then (Low (IsFactor d) h) rest (lower rest) _ (Low (IsFactor d) (suc h)) ts (low rest) (λ a ha. rw e (g.negative ha.0, omega arith))
step_sound d h (Some (Parenthesis, rest)) ts lower inside e low within = then (Low (Within d) (suc h)) rest (inside rest) _ (Low (IsFactor d) (suc h)) ts (within rest) (λ a ha.
    closed_then (Low (Within d) (suc h)) a.0 rest a.0 a.1 (Low (IsFactor d) (suc h)) ts ha (λ behind hr. rw e (in_parens d a.0 rest behind hr.0, hr.1)))

factor_sound : (d : ℕ) (inside : ExpressionReader) → ((h : ℕ) (ts : List TokenKind) → Found (Low (Within d) h) ts (inside h ts)) → (h : ℕ) (ts : List TokenKind) → Found (Low (IsFactor d) h) ts (factor_at inside h ts)
unfolding factor_at
factor_sound d inside within zero ts = tt
factor_sound d inside within (suc h) ts = step_sound d h (opening_at ts) ts (factor_at inside h) (inside (suc h)) (opening_sound ts) (factor_sound d inside within h) (within (suc h))

term_sound : (d : ℕ) (inside : ExpressionReader) → ((h : ℕ) (ts : List TokenKind) → Found (Low (Within d) h) ts (inside h ts)) → (h : ℕ) (ts : List TokenKind) → Found (Low (IsTerm d) h) ts (term_at inside h ts)
unfolding term_at
term_sound d inside within h ts = then (Low (IsFactor d) h) ts (factor_at inside h ts) _ (Low (IsTerm d) h) ts (factor_sound d inside within h ts) (λ a ha.
    chain_sound star_at (factor_at inside) (IsTerm d) (IsFactor d) h h (star_joins d) (factor_sound d inside within) a.0 ts a.1 (g.factor ha.0, ha.1))

expr_sound : (d : ℕ) (inside : ExpressionReader) → ((h : ℕ) (ts : List TokenKind) → Found (Low (Within d) h) ts (inside h ts)) → (h : ℕ) (ts : List TokenKind) → Found (Low (IsExpr d) h) ts (expr_at inside h ts)
unfolding expr_at
expr_sound d inside within h ts = then (Low (IsTerm d) h) ts (term_at inside h ts) _ (Low (IsExpr d) h) ts (term_sound d inside within h ts) (λ a ha.
    chain_sound plus_at (term_at inside) (IsExpr d) (IsTerm d) h h (plus_joins d) (term_sound d inside within) a.0 ts a.1 (g.term ha.0, ha.1))

inside_sound : (d h : ℕ) (ts : List TokenKind) → Found (Low (Within d) h) ts (inside_at d h ts)
unfolding inside_at
inside_sound zero h ts = tt
inside_sound (suc d) h ts = expr_sound d (inside_at d) (inside_sound d) h ts

-- ---- what stands in the grammar is read

no_star : (ts : List TokenKind) → 2 ≤ expression_binds ts → star_at ts ≡ None
unfolding star_at
no_star (Mark Star ∷ ts) h = absurd (omega arith)
no_star ts h = refl

no_plus : (ts : List TokenKind) → 3 ≤ expression_binds ts → plus_at ts ≡ None
unfolding plus_at
no_plus (Mark Plus ∷ ts) h = absurd (omega arith)
no_plus (Mark Minus ∷ ts) h = absurd (omega arith)
no_plus ts h = refl

positive : (a : Tree) → 1 ≤ height a
positive (lit v) = omega arith
positive (var s) = omega arith
positive (var_field s f) = omega arith
positive (neg a) = omega arith
positive (add a b) = omega arith
positive (sub a b) = omega arith
positive (mul a b) = omega arith

pub factor_opens : (inside : ExpressionReader) (h : ℕ) (ts : List TokenKind) → 0 < h → factor_at inside h ts ≡ factor_step (opening_at ts) ts (factor_at inside (h - 1)) (inside h)
unfolding factor_at
factor_opens inside zero ts lt = absurd (omega arith)
factor_opens inside (suc h) ts lt = let k : suc h - 1 ≡ h = omega arith in rw k refl

var_step : (v : List ℕ) (rest : List TokenKind) → 1 ≤ expression_binds rest → atom_at (Var v ∷ rest) ≡ Some (var v, rest)
unfolding atom_at
var_step v (Mark Dot ∷ rest) h = absurd (omega arith)
var_step v rest h = refl

mutual
  unfolding plus_at star_at expr_at term_at opening_at atom_at after_close inside_at is_ident

  expr_left : {d : ℕ} {a : Tree} {ts rest : List TokenKind} → IsExpr d a ts rest → (h : ℕ) → height a ≤ h → 2 ≤ expression_binds rest → Left plus_at (term_at (inside_at d)) h (expr_at (inside_at d) h ts) a rest
  expr_left {d} {a} {ts} {rest} (g.term ht) h low stop = chain_starts plus_at (term_at (inside_at d)) h ts rest a (chain_done (term_left ht h low (omega arith)) (no_star rest stop))
  expr_left {d} (g.plus {a} {b} {middle} ha hb) h low stop = chain_turn refl refl low (chain_done (term_left hb (h - 1) (omega arith) (omega arith)) (no_star _ stop)) (expr_left ha h (omega arith) (omega arith))
  expr_left {d} (g.minus {a} {b} {middle} ha hb) h low stop = chain_turn refl refl low (chain_done (term_left hb (h - 1) (omega arith) (omega arith)) (no_star _ stop)) (expr_left ha h (omega arith) (omega arith))

  term_left : {d : ℕ} {a : Tree} {ts rest : List TokenKind} → IsTerm d a ts rest → (h : ℕ) → height a ≤ h → 1 ≤ expression_binds rest → Left star_at (factor_at (inside_at d)) h (term_at (inside_at d) h ts) a rest
  term_left {d} {a} {ts} {rest} (g.factor hf) h low stop = chain_starts star_at (factor_at (inside_at d)) h ts rest a (factor_again hf h low stop)
  term_left {d} (g.times {a} {b} {middle} ha hb) h low stop = chain_turn refl refl low (factor_again hb (h - 1) (omega arith) stop) (term_left ha h (omega arith) (omega arith))

  factor_again : {d : ℕ} {a : Tree} {ts rest : List TokenKind} → IsFactor d a ts rest → (h : ℕ) → height a ≤ h → 1 ≤ expression_binds rest → factor_at (inside_at d) h ts ≡ Some (a, rest)
  factor_again {d} (g.negative {a} {ts} ha) h low stop = rw (factor_opens (inside_at d) h (Mark Minus ∷ ts) (omega arith), factor_again ha (h - 1) (omega arith) stop) refl
  factor_again (g.parens {d} {a} {ts} ha) h low stop = rw (factor_opens (inside_at (suc d)) h (Mark OpenParenthesis ∷ ts) (omega (arith, positive a)), chain_done (expr_left ha h low (omega arith)) refl) refl
  factor_again (g.number {d} {n} {rest}) h low stop = rw (factor_opens (inside_at d) h (Number n ∷ rest) (omega arith)) refl
  factor_again (g.text {d} {s} {rest}) h low stop = rw (factor_opens (inside_at d) h (Text s ∷ rest) (omega arith)) refl
  factor_again (g.yes_word {d} {rest}) h low stop = rw (factor_opens (inside_at d) h (Word (codes "true") ∷ rest) (omega arith)) refl
  factor_again (g.no_word {d} {rest}) h low stop = rw (factor_opens (inside_at d) h (Word (codes "false") ∷ rest) (omega arith)) refl
  factor_again (g.variable {d} {v} {rest}) h low stop = rw (factor_opens (inside_at d) h (Var v ∷ rest) (omega arith)) (var_step v rest stop)
  factor_again (g.field_of {d} {v} {f} {rest} hf) h low stop = rw (factor_opens (inside_at d) h (Var v ∷ Mark Dot ∷ Word f ∷ rest) (omega arith), hf) refl

-- an expression that stands there and is at most so high is read
expr_again : (d h : ℕ) (a : Tree) (ts rest : List TokenKind) → IsExpr d a ts rest → height a ≤ h → 3 ≤ expression_binds rest → expr_at (inside_at d) h ts ≡ Some (a, rest)
expr_again d h a ts rest ha low stop = chain_done (expr_left ha h low (omega arith)) (no_plus rest stop)

-- ---- a phrase has a token

mutual
  expr_shorter : {d : ℕ} {a : Tree} {ts rest : List TokenKind} → IsExpr d a ts rest → length rest < length ts
  expr_shorter (g.term ht) = term_shorter ht
  expr_shorter (g.plus {middle} ha hb) = let one = expr_shorter ha in let two = term_shorter hb in omega arith
  expr_shorter (g.minus {middle} ha hb) = let one = expr_shorter ha in let two = term_shorter hb in omega arith

  term_shorter : {d : ℕ} {a : Tree} {ts rest : List TokenKind} → IsTerm d a ts rest → length rest < length ts
  term_shorter (g.factor hf) = factor_shorter hf
  term_shorter (g.times {middle} ha hb) = let one = term_shorter ha in let two = factor_shorter hb in omega arith

  factor_shorter : {d : ℕ} {a : Tree} {ts rest : List TokenKind} → IsFactor d a ts rest → length rest < length ts
  factor_shorter (g.negative ha) = let one = factor_shorter ha in omega arith
  factor_shorter (g.parens ha) = let one = expr_shorter ha in omega arith
  factor_shorter g.number = omega arith
  factor_shorter g.text = omega arith
  factor_shorter g.yes_word = omega arith
  factor_shorter g.no_word = omega arith
  factor_shorter g.variable = omega arith
  factor_shorter (g.field_of hf) = omega arith

-- ---- the laws of the reading of an expression

pub expression_exact : Exact IsExpression expression_at 3
unfolding expression_at
expression_exact = record { sound = sound; again = again; shorter = shorter }
  where
    sound : (ts : List TokenKind) → Found IsExpression ts (expression_at ts)
    sound ts = expr_sound 32 (inside_at 32) (inside_sound 32) 32 ts

    again : (a : Tree) (ts rest : List TokenKind) → IsExpression a ts rest → 3 ≤ expression_binds rest → expression_at ts ≡ Some (a, rest)
    again a ts rest h stop = expr_again 32 32 a ts rest h.0 h.1 stop

    shorter : (a : Tree) (ts rest : List TokenKind) → IsExpression a ts rest → length rest < length ts
    shorter a ts rest h = expr_shorter h.0

-- what is read is an expression
pub expression_found : (ts rest : List TokenKind) (a : Tree) → expression_at ts ≡ Some (a, rest) → IsExpression a ts rest
expression_found ts rest a e = subst (Found IsExpression ts) e (expression_exact.sound ts)

-- an expression that stands there is what is read, if what follows is no operator and no dot
pub expression_again : (ts : List TokenKind) (o : Read Tree) → expression_at ts ≡ o → (a : Tree) (rest : List TokenKind) → IsExpression a ts rest → 3 ≤ expression_binds rest → o ≡ Some (a, rest)
expression_again ts o e a rest h stop = sym e ∙ expression_exact.again a ts rest h stop

-- how many tokens are left behind what is read
abbrev left_over : Read Tree → ℕ
left_over None = 0
left_over (Some x) = length x.1

nothing_read : (x : Tree × List TokenKind) → None ≡ Some x → ⊥
nothing_read x e = absurd cc

rest_read : (x y : Tree × List TokenKind) → Some x ≡ Some y → 0 < length x.1 → y.1 ≡ [] → ⊥
rest_read x y e some none = absurd (omega (arith, ap (λ (o : List TokenKind). length o) none, ap (λ (o : Read Tree). left_over o) e))

-- where nothing is read at the front, no expression is all the tokens
pub none_at_all : (ts : List TokenKind) → expression_at ts ≡ None → (a : Tree) → IsExpression a ts [] → ⊥
none_at_all ts e a h = nothing_read (a, []) (sym e ∙ expression_exact.again a ts [] h (omega arith))

-- where tokens are left behind what is read, no expression is all the tokens
pub none_with_rest : (ts rest : List TokenKind) (b : Tree) → expression_at ts ≡ Some (b, rest) → 0 < length rest → (a : Tree) → IsExpression a ts [] → ⊥
none_with_rest ts rest b e some a h = rest_read (b, rest) (a, []) (sym e ∙ expression_exact.again a ts [] h (omega arith)) some refl
