-- The tokens of what a rule asks for stand for it again.
use Rattle.drl_show.proofs.Common.{◌≡◌, ℕ, suc, List, [], ◌∷◌, ◌++◌, refl, sym, ap, subst, ◌∙◌, append_assoc, append-nil, codes, TokenKind, Word, Mark}
use Rattle.drl_show.proofs.Common.{OpenParenthesis, CloseParenthesis, Phrase, each, piece_tokens, IsChoice, AreAll, AreAny, IsAsked}
use Rattle.{drl_lex.specs.Bytes.{begins_word, is_word_byte}, drl_grammar.specs.declared.written.Piece.{Piece, TheVariants.{One, Or, Close}}}
use Rattle.drl_grammar.specs.Conditions as g
use Rattle.drl_show.proofs.{Fine.{fine_append}, AgainShapes.{Again, Agains, regroup}, AgainConditions.{condition_again}}

abbrev told : List Piece → List TokenKind
told = each piece_tokens

told_append : (ps qs : List Piece) → told (ps ++ qs) ≡ told ps ++ told qs
told_append [] qs = refl
told_append (p ∷ ps) qs = ap (λ (back : List TokenKind). piece_tokens p ++ back) (told_append ps qs) ∙ sym (append_assoc (piece_tokens p) (told ps) (told qs))

-- by tokens that are the same
by_tokens : (Is : Phrase (List Piece)) (ps : List Piece) (rest tokens : List TokenKind) → told ps ≡ tokens → Again Is tokens ps rest → Again Is (told ps) ps rest
by_tokens Is ps rest tokens same h = subst (λ (ts : List TokenKind). Again Is ts ps rest) (sym same) h

-- two alternatives, up to the closing parenthesis
two_told : (ps qs : List Piece) → told (ps ++ Or ∷ qs ++ Close ∷ []) ≡ told ps ++ (Word (codes "or") ∷ (told qs ++ (Mark CloseParenthesis ∷ [])))
two_told ps qs = told_append (ps ++ Or ∷ qs) (Close ∷ [])
    ∙ (ap (λ (front : List TokenKind). front ++ (Mark CloseParenthesis ∷ [])) (told_append ps (Or ∷ qs)) ∙ append_assoc (told ps) (Word (codes "or") ∷ told qs) (Mark CloseParenthesis ∷ []))

two_before : (xs ys k : List TokenKind) (t u : TokenKind) → (xs ++ (t ∷ (ys ++ (u ∷ [])))) ++ k ≡ xs ++ (t ∷ (ys ++ (u ∷ k)))
two_before xs ys k t u = append_assoc xs (t ∷ (ys ++ (u ∷ []))) k ∙ ap (λ (back : List TokenKind). xs ++ (t ∷ back)) (append_assoc ys (u ∷ []) k)

mutual
  unfolding begins_word is_word_byte

  choice_again : (d : ℕ) → Agains (IsChoice d) (IsChoice d) told
  choice_again d x ts rest (g.one {c} h) good =
      let one = condition_again c ts rest h good in
      by_tokens (IsChoice d) (One c ∷ []) rest (piece_tokens (One c)) (append-nil (piece_tokens (One c))) (record { stands = λ k. g.one (one.stands k); is_fine = one.is_fine; behind = one.behind })
  choice_again (suc d) x whole rest (g.alternatives {ps} {qs} {ts} {middle} hps hqs) good =
      let a = all_again d ps ts (Word (codes "or") ∷ middle) hps good.1 in
      let b = any_again d qs middle (Mark CloseParenthesis ∷ rest) hqs a.behind.1 in
      by_tokens (IsChoice (suc d)) x rest (Mark OpenParenthesis ∷ (told ps ++ (Word (codes "or") ∷ (told qs ++ (Mark CloseParenthesis ∷ []))))) (ap (λ (back : List TokenKind). Mark OpenParenthesis ∷ back) (two_told ps qs)) (record {
        stands = λ k. subst (λ (back : List TokenKind). IsChoice (suc d) x (Mark OpenParenthesis ∷ back) k) (sym (two_before (told ps) (told qs) k (Word (codes "or")) (Mark CloseParenthesis)))
            (g.alternatives (a.stands (Word (codes "or") ∷ (told qs ++ (Mark CloseParenthesis ∷ k)))) (b.stands (Mark CloseParenthesis ∷ k)));
        is_fine = fine_append (told ps) (Word (codes "or") ∷ (told qs ++ (Mark CloseParenthesis ∷ []))) a.is_fine (fine_append (told qs) (Mark CloseParenthesis ∷ []) b.is_fine refl);
        behind = b.behind.1;
      })

  all_again : (d : ℕ) → Agains (AreAll d) (AreAll d) told
  all_again d x ts rest (g.last h) good =
      let one = choice_again d x ts rest h good in record { stands = λ k. g.last (one.stands k); is_fine = one.is_fine; behind = one.behind }
  all_again d x ts rest (g.further {ps} {qs} {middle} h hs) good =
      let one = choice_again d ps ts middle h good in
      let others = all_again d qs middle rest hs one.behind in
      by_tokens (AreAll d) (ps ++ qs) rest (told ps ++ told qs) (told_append ps qs) (record {
        stands = λ k. regroup (AreAll d) (ps ++ qs) (told ps) (told qs) k (g.further (one.stands (told qs ++ k)) (others.stands k));
        is_fine = fine_append (told ps) (told qs) one.is_fine others.is_fine;
        behind = others.behind;
      })

  any_again : (d : ℕ) → Agains (AreAny d) (AreAny d) told
  any_again d x ts rest (g.only h) good =
      let one = all_again d x ts rest h good in record { stands = λ k. g.only (one.stands k); is_fine = one.is_fine; behind = one.behind }
  any_again d x ts rest (g.or_else {ps} {qs} {middle} h hs) good =
      let one = all_again d ps ts (Word (codes "or") ∷ middle) h good in
      let others = any_again d qs middle rest hs one.behind.1 in
      by_tokens (AreAny d) (ps ++ Or ∷ qs) rest (told ps ++ (Word (codes "or") ∷ told qs)) (told_append ps (Or ∷ qs)) (record {
        stands = λ k. regroup (AreAny d) (ps ++ Or ∷ qs) (told ps) (Word (codes "or") ∷ told qs) k (g.or_else (one.stands (Word (codes "or") ∷ (told qs ++ k))) (others.stands k));
        is_fine = fine_append (told ps) (Word (codes "or") ∷ told qs) one.is_fine others.is_fine;
        behind = others.behind;
      })

pub asked_again : Agains IsAsked IsAsked (each piece_tokens)
asked_again = all_again 16
