-- How loosely words bind, and the laws of expressions carried over to the whole grammar.
use Rattle.drl_phrase.proofs.Common.{◌≡◌, ℕ, ◌≤◌, Bool, true, false, cond, List, ◌∷◌, refl, subst, arith, codes, bytes_eq, TokenKind, Word, Mark, Dot, Star}
use Rattle.drl_phrase.proofs.Common.{Plus, Minus, And, Or, Comma, Semicolon, Read, Phrase, IsIdent, phrase_binds, ExactPhrase}
use Rattle.drl_expr.specs.Exact as expressions
use Rattle.{drl_expr.specs.Words.{is_ident}, drl_phrase.proofs.ShapeLaws.{same_bytes}}

not_over : IsIdent (codes "over") → ⊥
unfolding is_ident
not_over h = absurd cc

not_from : IsIdent (codes "from") → ⊥
unfolding is_ident
not_from h = absurd cc

abbrev word_level : Bool → Bool → ℕ
word_level o a = cond o 7 (cond a 8 9)

-- a name goes on with nothing
pub ident_binds : (f : List ℕ) (rest : List TokenKind) → IsIdent f → phrase_binds (Word f ∷ rest) ≡ 9
ident_binds f rest h = go (bytes_eq f (codes "over")) (bytes_eq f (codes "from")) refl refl
  where
    go : (o a : Bool) → bytes_eq f (codes "over") ≡ o → bytes_eq f (codes "from") ≡ a → word_level o a ≡ 9
    go true a is_over is_from = absurd (not_over (subst IsIdent (same_bytes f (codes "over") is_over) h))
    go false true is_over is_from = absurd (not_from (subst IsIdent (same_bytes f (codes "from") is_from) h))
    go false false is_over is_from = refl

word_binds : (o a : Bool) → word_level o a ≤ 9
word_binds true a = omega arith
word_binds false true = omega arith
word_binds false false = omega arith

-- the two words that go on with a pattern bind more loosely than all that goes on with an expression
pub binds_less : (ts : List TokenKind) → phrase_binds ts ≤ expressions.expression_binds ts
binds_less (Mark Dot ∷ rest) = omega arith
binds_less (Mark Star ∷ rest) = omega arith
binds_less (Mark Plus ∷ rest) = omega arith
binds_less (Mark Minus ∷ rest) = omega arith
binds_less (Mark And ∷ rest) = omega arith
binds_less (Mark Or ∷ rest) = omega arith
binds_less (Mark Comma ∷ rest) = omega arith
binds_less (Mark Semicolon ∷ rest) = omega arith
binds_less (Word w ∷ rest) = word_binds (bytes_eq w (codes "over")) (bytes_eq w (codes "from"))
binds_less ts = omega arith

-- what is read exactly as a part of an expression is read exactly as a part of a rule
pub carried : {A : Type 0} {Is : Phrase A} {read : List TokenKind → Read A} {k : ℕ} → expressions.Exact Is read k → ExactPhrase Is read k
carried exact = record {
  sound = exact.sound;
  again = λ x ts rest h stop. let less = binds_less rest in exact.again x ts rest h (omega arith);
  shorter = exact.shorter;
}
