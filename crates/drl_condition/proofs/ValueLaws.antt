-- Literals, operands and comparisons are read exactly.
use Rattle.drl_condition.proofs.Common.{◌≡◌, ℕ, ◌<◌, ◌≤◌, Bool, true, false, cond, List, ◌∷◌, length, Some, None, refl, arith, codes, bytes_eq, TokenKind, Word}
use Rattle.drl_condition.proofs.Common.{Var, Number, Mark, OpenParenthesis, CloseParenthesis, Comma, Minus, Comparison, IsIdent, Phrase, Found, Operand, Cmp}
use Rattle.drl_condition.proofs.Common.{Separated, IsOperand, IsDisj, phrase_binds, ExactPhrase, ◌>>=◌, separated_at, then, guarded, ident_then, ident_is}
use Rattle.drl_condition.proofs.Common.{same_bytes, closed_then, separated_exact, disj_at, Text, Dot, And, single, more, IsLiteral, IsCmp, IsConj, as_operand}
use Rattle.{drl_condition.proofs.Common.{conj_at}, drl_lex.specs.declared.token.Mark.TheVariants.{Or}, drl_expr.specs.Words.{is_ident}}
use Rattle.drl_expr.specs.declared.literal.LitTree.{LitTree}
use Rattle.drl_expr.specs.declared.literal.LitTree.TheVariants as lit
use Rattle.drl_grammar.specs.declared.condition.Operand.TheVariants as operand
use Rattle.drl_grammar.specs.Conditions as g
use Rattle.drl_phrase.specs.declared.phrase.Punctuation.TheVariants as p
use Rattle.{drl_phrase.specs.Reading.{closed, after}, drl_condition.specs.Reading.{literal_at, test_operand_at, compared_at, one_of_at, cmp_at}}

words_sound : (w : List ℕ) (rest : List TokenKind) (t f : Bool) → bytes_eq w (codes "true") ≡ t → bytes_eq w (codes "false") ≡ f
    → Found IsLiteral (Word w ∷ rest) (cond t (Some (lit.Bool true, rest)) (cond f (Some (lit.Bool false, rest)) None))
words_sound w rest true f is_true is_false = rw (same_bytes w (codes "true") is_true) g.yes_word
words_sound w rest false true is_true is_false = rw (same_bytes w (codes "false") is_false) g.no_word
words_sound w rest false false is_true is_false = tt

pub literal_exact : ExactPhrase IsLiteral literal_at 0
unfolding literal_at
literal_exact = record { sound = sound; again = again; shorter = shorter }
  where
    sound : (ts : List TokenKind) → Found IsLiteral ts (literal_at ts)
    sound (Number n ∷ rest) = g.number
    sound (Mark Minus ∷ Number n ∷ rest) = g.negative
    sound (Text s ∷ rest) = g.text
    sound (Word w ∷ rest) = words_sound w rest (bytes_eq w (codes "true")) (bytes_eq w (codes "false")) refl refl
    sound ts = tt

    again : (x : LitTree) (ts rest : List TokenKind) → IsLiteral x ts rest → 0 ≤ phrase_binds rest → literal_at ts ≡ Some (x, rest)
    again x ts rest g.number stop = refl
    again x ts rest g.negative stop = refl
    again x ts rest g.text stop = refl
    again x ts rest g.yes_word stop = refl
    again x ts rest g.no_word stop = refl

    shorter : (x : LitTree) (ts rest : List TokenKind) → IsLiteral x ts rest → length rest < length ts
    shorter x ts rest g.number = omega arith
    shorter x ts rest g.negative = omega arith
    shorter x ts rest g.text = omega arith
    shorter x ts rest g.yes_word = omega arith
    shorter x ts rest g.no_word = omega arith

pub operand_exact : ExactPhrase IsOperand test_operand_at 1
unfolding test_operand_at literal_at is_ident
operand_exact = record { sound = sound; again = again; shorter = shorter }
  where
    as_literal : (ts : List TokenKind) → Found IsOperand ts (literal_at ts >>= as_operand)
    as_literal ts = then IsLiteral ts (literal_at ts) as_operand IsOperand ts (literal_exact.sound ts) (λ l hl. g.literal hl)

    sound : (ts : List TokenKind) → Found IsOperand ts (test_operand_at ts)
    sound (Var v ∷ Mark Dot ∷ Word f ∷ rest) = ident_then IsOperand _ f _ (λ h. g.field_of h)
    sound (Var v ∷ Mark Dot ∷ rest) = tt
    sound (Var v ∷ rest) = g.variable
    sound (Word w ∷ rest) = go (is_ident w) refl
      where
        go : (b : Bool) → is_ident w ≡ b → Found IsOperand (Word w ∷ rest) (cond b (Some (operand.Own w, rest)) (literal_at (Word w ∷ rest) >>= as_operand))
        go true h = g.own h
        go false h = as_literal (Word w ∷ rest)
    sound ts = as_literal ts

    from_literal : (l : LitTree) (ts rest : List TokenKind) → IsLiteral l ts rest → test_operand_at ts ≡ Some (operand.Lit l, rest)
    from_literal l ts rest g.number = refl
    from_literal l ts rest g.negative = refl
    from_literal l ts rest g.text = refl
    from_literal l ts rest g.yes_word = refl
    from_literal l ts rest g.no_word = refl

    again : (x : Operand) (ts rest : List TokenKind) → IsOperand x ts rest → 1 ≤ phrase_binds rest → test_operand_at ts ≡ Some (x, rest)
    again x ts rest (g.literal h) stop = from_literal _ ts rest h
    again x ts rest (g.field_of {v} {f} h) stop = ident_is f _ h
    again x ts rest (g.own h) stop = rw h refl
    again x ts rest (g.variable {v} {rest = Mark Dot ∷ others}) stop = absurd (omega arith)
    again x ts rest g.variable stop = refl

    shorter : (x : Operand) (ts rest : List TokenKind) → IsOperand x ts rest → length rest < length ts
    shorter x ts rest (g.literal {l} h) = literal_exact.shorter l ts rest h
    shorter x ts rest (g.field_of h) = omega arith
    shorter x ts rest (g.own h) = omega arith
    shorter x ts rest g.variable = omega arith

operands_exact : ExactPhrase (Separated (Mark Comma) IsOperand) (separated_at test_operand_at p.Comma) 6
operands_exact = separated_exact p.Comma (omega arith) operand_exact

pub cmp_exact : ExactPhrase IsCmp cmp_at 1
unfolding cmp_at compared_at one_of_at closed after
cmp_exact = record { sound = sound; again = again; shorter = shorter }
  where
    sound : (ts : List TokenKind) → Found IsCmp ts (cmp_at ts)
    sound (Word f ∷ Mark (Comparison r) ∷ ts) = ident_then IsCmp _ f _ (λ h. then IsOperand ts (test_operand_at ts) _ IsCmp _ (operand_exact.sound ts) (λ o ho. g.rel h ho))
    sound (Word f ∷ Word w ∷ Mark OpenParenthesis ∷ ts) = ident_then IsCmp _ f _ (λ h. guarded IsCmp _ (bytes_eq w (codes "in")) _ (λ e.
        then (Separated (Mark Comma) IsOperand) ts (separated_at test_operand_at p.Comma ts) _ IsCmp _ (operands_exact.sound ts) (λ os hos.
        closed_then p.CloseParenthesis (Separated (Mark Comma) IsOperand) os.0 ts _ os.1 IsCmp _ hos (λ rest hr. rw (same_bytes w (codes "in") e) (g.one_of h hr)))))
    sound ts = tt

    again : (x : Cmp) (ts rest : List TokenKind) → IsCmp x ts rest → 1 ≤ phrase_binds rest → cmp_at ts ≡ Some (x, rest)
    again x ts rest (g.rel {f} {o} {ts = os} h ho) stop = rw (ident_is f _ h, operand_exact.again o os rest ho stop) refl
    again x ts rest (g.one_of {f} {os} {ts = inner} h hos) stop = rw (ident_is f _ h, operands_exact.again os inner (Mark CloseParenthesis ∷ rest) hos (omega arith)) refl

    shorter : (x : Cmp) (ts rest : List TokenKind) → IsCmp x ts rest → length rest < length ts
    shorter x ts rest (g.rel {o} {ts = os} h ho) = let less = operand_exact.shorter o os rest ho in omega arith
    shorter x ts rest (g.one_of {os} {ts = inner} h hos) = let less = operands_exact.shorter os inner (Mark CloseParenthesis ∷ rest) hos in omega arith

pub conj_exact : ExactPhrase IsConj conj_at 4
conj_exact = separated_exact p.And (omega arith) cmp_exact

pub disj_exact : ExactPhrase IsDisj disj_at 5
disj_exact = separated_exact p.Or (omega arith) conj_exact

-- ---- how comparisons begin

-- the first token is a name
abbrev pub Named : List TokenKind → Type 0
Named (Word f ∷ rest) = IsIdent f
Named ts = ⊥

front : {A : Type 0} {Is : Phrase A} (s : TokenKind) (P : List TokenKind → Type 0) → ((x : A) (ts rest : List TokenKind) → Is x ts rest → P ts)
    → (xs : List A) (ts rest : List TokenKind) → Separated s Is xs ts rest → P ts
front s P begins xs ts rest (single {x} hx) = begins x ts rest hx
front s P begins xs ts rest (more {x} {middle} hx hxs) = begins x ts (s ∷ middle) hx

cmp_begins : (x : Cmp) (ts rest : List TokenKind) → IsCmp x ts rest → Named ts
cmp_begins x ts rest (g.rel h ho) = h
cmp_begins x ts rest (g.one_of h hos) = h

conj_begins : (xs : List Cmp) (ts rest : List TokenKind) → IsConj xs ts rest → Named ts
conj_begins = front (Mark And) Named cmp_begins

pub disj_begins : (xs : List (List Cmp)) (ts rest : List TokenKind) → IsDisj xs ts rest → Named ts
disj_begins = front (Mark Or) Named conj_begins
