-- Spans and names are read exactly.
use Rattle.drl_phrase.proofs.Common.{◌≡◌, ℕ, ℤ, ◌<◌, ◌≤◌, List, ◌∷◌, length, Some, refl, arith, TokenKind, Word, Number, Time, Text, Mark, Minus, Found}
use Rattle.drl_phrase.proofs.Common.{phrase_binds, ExactPhrase}
use Rattle.drl_grammar.specs.Conditions as g
use Rattle.{drl_grammar.specs.Conditions.{IsSpan, IsName}, drl_phrase.{specs.Reading.{span_at, name_at}, proofs.ShapeLaws.{ident_then, ident_is}}}

pub span_exact : ExactPhrase IsSpan span_at 0
unfolding span_at
span_exact = record { sound = sound; again = again; shorter = shorter }
  where
    sound : (ts : List TokenKind) → Found IsSpan ts (span_at ts)
    sound (Number n ∷ rest) = g.number_span
    sound (Time n ∷ rest) = g.time_span
    sound (Mark Minus ∷ Number n ∷ rest) = g.negative_number
    sound (Mark Minus ∷ Time n ∷ rest) = g.negative_time
    sound ts = tt

    again : (x : ℤ) (ts rest : List TokenKind) → IsSpan x ts rest → 0 ≤ phrase_binds rest → span_at ts ≡ Some (x, rest)
    again x ts rest g.number_span stop = refl
    again x ts rest g.time_span stop = refl
    again x ts rest g.negative_number stop = refl
    again x ts rest g.negative_time stop = refl

    shorter : (x : ℤ) (ts rest : List TokenKind) → IsSpan x ts rest → length rest < length ts
    shorter x ts rest g.number_span = omega arith
    shorter x ts rest g.time_span = omega arith
    shorter x ts rest g.negative_number = omega arith
    shorter x ts rest g.negative_time = omega arith

pub name_exact : ExactPhrase IsName name_at 0
unfolding name_at
name_exact = record { sound = sound; again = again; shorter = shorter }
  where
    sound : (ts : List TokenKind) → Found IsName ts (name_at ts)
    sound (Text s ∷ rest) = g.quoted
    sound (Word s ∷ rest) = ident_then IsName _ s _ (λ h. g.plain_word h)
    sound ts = tt

    again : (x : List ℕ) (ts rest : List TokenKind) → IsName x ts rest → 0 ≤ phrase_binds rest → name_at ts ≡ Some (x, rest)
    again x ts rest g.quoted stop = refl
    again x ts rest (g.plain_word h) stop = ident_is x _ h

    shorter : (x : List ℕ) (ts rest : List TokenKind) → IsName x ts rest → length rest < length ts
    shorter x ts rest g.quoted = omega arith
    shorter x ts rest (g.plain_word h) = omega arith
