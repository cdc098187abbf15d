-- The parts of a pattern are read exactly.
use Rattle.drl_condition.proofs.Common.{◌≡◌, ℕ, ℤ, ◌<◌, ◌≤◌, List, ◌∷◌, length, Some, refl, arith, codes, bytes_eq, OpWord, TokenKind, Word, Var, Mark, Comma}
use Rattle.drl_condition.proofs.Common.{Colon, Found, Cmp, Separated, Listed, op_text, IsSpan, IsDisj, IsPart, phrase_binds, ExactPhrase, separated_at}
use Rattle.drl_condition.proofs.Common.{listed_at, span_at, then, if_some_then, ident_then, ident_is, same_bytes, closed_then, separated_exact, listed_exact}
use Rattle.{drl_condition.proofs.Common.{span_exact, disj_at, OpenBracket, CloseBracket, AreParams, choice, op_word}, drl_expr.specs.Words.{is_ident}}
use Rattle.drl_grammar.specs.declared.condition.Part.{Part}
use Rattle.drl_grammar.specs.declared.condition.Part.TheVariants as part
use Rattle.drl_grammar.specs.Conditions as g
use Rattle.drl_phrase.specs.declared.phrase.Punctuation.TheVariants as p
use Rattle.{drl_phrase.specs.Reading.{closed, after}, drl_condition.specs.Reading.{params_at, other_at, temporal_at, any_of_at, part_at}}
use Rattle.drl_condition.proofs.{WordLaws.{op_sound, op_again, ident_differs}, ValueLaws.{disj_exact, Named, disj_begins}}

-- ---- temporal tests

spans_exact : ExactPhrase (Separated (Mark Comma) IsSpan) (separated_at span_at p.Comma) 6
spans_exact = separated_exact p.Comma (omega arith) span_exact

params_sound : (ts : List TokenKind) → Found AreParams ts (params_at ts)
unfolding params_at
params_sound (Mark OpenBracket ∷ ts) = then (Separated (Mark Comma) IsSpan) ts (separated_at span_at p.Comma ts) _ AreParams _ (spans_exact.sound ts) (λ ps hps.
    closed_then p.CloseBracket (Separated (Mark Comma) IsSpan) ps.0 ts _ ps.1 AreParams _ hps (λ rest hr. g.bracketed hr))
params_sound ts = g.no_params

params_again : (ps : List ℤ) (ts : List TokenKind) (v : List ℕ) (rest : List TokenKind) → AreParams ps ts (Var v ∷ rest) → params_at ts ≡ Some (ps, Var v ∷ rest)
unfolding params_at closed after
params_again ps ts v rest g.no_params = refl
params_again ps ts v rest (g.bracketed {ts = inner} h) = rw (spans_exact.again ps inner (Mark CloseBracket ∷ Var v ∷ rest) h (omega arith)) refl

params_shorter : (ps : List ℤ) (ts rest : List TokenKind) → AreParams ps ts rest → length rest ≤ length ts
params_shorter ps ts rest g.no_params = omega arith
params_shorter ps ts rest (g.bracketed {ts = inner} h) = let less = spans_exact.shorter ps inner (Mark CloseBracket ∷ rest) h in omega arith

other_sound : (op : OpWord) (ps : List ℤ) (ts behind : List TokenKind) → AreParams ps ts behind → Found IsPart (Word (codes "this") ∷ Word (op_text op) ∷ ts) (other_at op ps behind)
unfolding other_at
other_sound op ps ts (Var v ∷ rest) h = g.temporal h
other_sound op ps ts behind h = tt

temporal_sound : (ts : List TokenKind) → Found IsPart (Word (codes "this") ∷ ts) (temporal_at ts)
unfolding temporal_at
temporal_sound (Word w ∷ ts) = if_some_then (op_word w) (λ op. w ≡ op_text op) _ IsPart _ (op_sound w) (λ op e. rw e (
    then AreParams ts (params_at ts) _ IsPart _ (params_sound ts) (λ ps hps. other_sound op ps.0 ts ps.1 hps)))
temporal_sound ts = tt

-- ---- parts

any_of_sound : (ts : List TokenKind) → Found IsPart ts (any_of_at ts)
unfolding any_of_at
any_of_sound ts = then IsDisj ts (disj_at ts) _ IsPart ts (disj_exact.sound ts) (λ d hd. g.any_of hd)

any_of_again : (d : List (List Cmp)) (ts rest : List TokenKind) → Named ts → disj_at ts ≡ Some (d, rest) → part_at ts ≡ Some (part.AnyOf d, rest)
unfolding part_at any_of_at is_ident
any_of_again d (Word w ∷ others) rest named e = rw (ident_differs w (codes "this") named refl, e) refl
any_of_again d ts rest named e = absurd named

pub part_exact : ExactPhrase IsPart part_at 5
unfolding part_at temporal_at other_at
part_exact = record { sound = sound; again = again; shorter = shorter }
  where
    sound : (ts : List TokenKind) → Found IsPart ts (part_at ts)
    sound (Var v ∷ Mark Colon ∷ Word f ∷ rest) = ident_then IsPart _ f _ (λ h. g.bind h)
    sound (Word w ∷ ts) = choice IsPart _ (bytes_eq w (codes "this")) _ _ (λ e. rw (same_bytes w (codes "this") e) (temporal_sound ts)) (λ e. any_of_sound (Word w ∷ ts))
    sound ts = tt

    again : (x : Part) (ts rest : List TokenKind) → IsPart x ts rest → 5 ≤ phrase_binds rest → part_at ts ≡ Some (x, rest)
    again x ts rest (g.bind {f} h) stop = ident_is f _ h
    again x ts rest (g.temporal {op} {ps} {v} {ts = inner} h) stop = rw (op_again op, params_again ps inner v rest h) refl
    again x ts rest (g.any_of {d} h) stop = any_of_again d ts rest (disj_begins d ts rest h) (disj_exact.again d ts rest h stop)

    shorter : (x : Part) (ts rest : List TokenKind) → IsPart x ts rest → length rest < length ts
    shorter x ts rest (g.bind h) = omega arith
    shorter x ts rest (g.temporal {ps} {v} {ts = inner} h) = let less = params_shorter ps inner (Var v ∷ rest) h in omega arith
    shorter x ts rest (g.any_of {d} h) = disj_exact.shorter d ts rest h

pub parts_exact : ExactPhrase (Listed IsPart) (listed_at part_at) 0
unfolding part_at
parts_exact = listed_exact (omega arith) part_exact (λ rest. refl)
