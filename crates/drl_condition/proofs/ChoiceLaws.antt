-- What a rule asks for is read exactly.
use Rattle.drl_condition.proofs.Common.{◌≡◌, ℕ, zero, suc, ◌<◌, ◌≤◌, ◌||◌, Bool, true, false, List, [], ◌∷◌, ◌++◌, length, Option, Some, None, refl, subst}
use Rattle.drl_condition.proofs.Common.{arith, IfSome, codes, bytes_eq, TokenKind, Word, Mark, OpenParenthesis, CloseParenthesis, Read, Found, CondTree, Piece}
use Rattle.drl_condition.proofs.Common.{One, Open, Or, Close, IsCondition, phrase_binds, ◌>>=◌, with_front, then, if_some_then, same_bytes, closed_then}
use Rattle.drl_condition.proofs.Common.{condition_at, PieceReader, IsChoice, AreAll, AreAny, IsAsked, word_sound, word_again, closed_is, any_step}
use Rattle.drl_expr.specs.Words.{is_ident}
use Rattle.drl_grammar.specs.Conditions as g
use Rattle.drl_phrase.specs.declared.phrase.Punctuation.TheVariants as p
use Rattle.drl_phrase.specs.Reading.{after_word}
use Rattle.drl_phrase.proofs.ShapeLaws as shapes
use Rattle.drl_condition.specs.Choices.{ends_all, all_turns, all_at, any_turns, any_at, alternatives_at, after_open, choice_at, pieces_at}
use Rattle.drl_condition.proofs.{WordLaws.{ident_differs}, ChoiceSteps.{one_is}, ConditionLaws.{condition_exact, condition_begins}}

-- ---- what is read stands there

-- what is read at the front of any tokens stands there
abbrev Sound : PieceReader → (List Piece → List TokenKind → List TokenKind → Type 0) → Type 0
Sound read Is = (ts : List TokenKind) → Found Is ts (read ts)

module _ (d : ℕ) (choice : PieceReader) (sound : Sound choice (IsChoice d)) where
  all_turns_sound : (n : ℕ) → Sound (all_turns choice n) (AreAll d)
  unfolding all_turns
  all_turns_sound zero ts = tt
  all_turns_sound (suc n) ts = then (IsChoice d) ts (choice ts) _ (AreAll d) ts (sound ts) (λ ps hps. shapes.choice (AreAll d) ts (ends_all ps.1) _ _ (λ e. g.last hps)
      (λ e. then (AreAll d) ps.1 (all_turns choice n ps.1) _ (AreAll d) ts (all_turns_sound n ps.1) (λ qs hqs. g.further hps hqs)))

  all_sound : Sound (all_at choice) (AreAll d)
  unfolding all_at
  all_sound ts = all_turns_sound (length ts) ts

or_found : (d : ℕ) (ps : List Piece) (ts next : List TokenKind) (o : Read (List Piece)) → AreAll d ps ts (Word (codes "or") ∷ next) → Found (AreAny d) next o
    → Found (AreAny d) ts (with_front ps (with_front (Or ∷ []) o))
or_found d ps ts next None h others = tt
or_found d ps ts next (Some qs) h others = g.or_else h others

any_step_sound : (d : ℕ) (ps : List Piece × List TokenKind) (ts : List TokenKind) (o : Option (List TokenKind)) (others : PieceReader) → AreAll d ps.0 ts ps.1 → IfSome o (λ next. ps.1 ≡ Word (codes "or") ∷ next)
    → Sound others (AreAny d) → Found (AreAny d) ts (any_step ps o others)
any_step_sound d ps ts None others h e sound = g.only h
any_step_sound d ps ts (Some next) others h e sound = or_found d ps.0 ts next (others next) (subst (AreAll d ps.0 ts) e h) (sound next)

module _ (d : ℕ) (all : PieceReader) (sound : Sound all (AreAll d)) where
  any_turns_sound : (n : ℕ) → Sound (any_turns all n) (AreAny d)
  unfolding any_turns
  any_turns_sound zero ts = tt
  any_turns_sound (suc n) ts = then (AreAll d) ts (all ts) _ (AreAny d) ts (sound ts) (λ ps hps.
      any_step_sound d ps ts (after_word (codes "or") ps.1) (any_turns all n) hps (word_sound (codes "or") ps.1) (any_turns_sound n))

  any_sound : Sound (any_at all) (AreAny d)
  unfolding any_at
  any_sound ts = any_turns_sound (length ts) ts

-- what stands behind the parenthesis before alternatives
abbrev Behind : ℕ → List Piece → List TokenKind → List TokenKind → Type 0
Behind d ps ts rest = IsChoice (suc d) (Open ∷ ps) (Mark OpenParenthesis ∷ ts) rest

alternatives_sound : (d : ℕ) (choice : PieceReader) → Sound choice (IsChoice d) → Sound (alternatives_at choice) (Behind d)
unfolding alternatives_at
alternatives_sound d choice sound ts = then (AreAll d) ts (all_at choice ts) _ (Behind d) ts (all_sound d choice sound ts) (λ ps hps.
    if_some_then (after_word (codes "or") ps.1) (λ next. ps.1 ≡ Word (codes "or") ∷ next) _ (Behind d) ts (word_sound (codes "or") ps.1) (λ next e.
    then (AreAny d) next (any_at (all_at choice) next) _ (Behind d) ts (any_sound d (all_at choice) (all_sound d choice sound) next) (λ qs hqs.
    closed_then p.CloseParenthesis (AreAny d) qs.0 next (ps.0 ++ Or ∷ qs.0 ++ Close ∷ []) qs.1 (Behind d) ts hqs (λ rest hr. g.alternatives (subst (AreAll d ps.0 ts) e hps) hr))))

one_sound : (d : ℕ) (ts : List TokenKind) → Found (IsChoice d) ts (condition_at ts >>= λ c. Some (One c.0 ∷ [], c.1))
one_sound d ts = then IsCondition ts (condition_at ts) _ (IsChoice d) ts (condition_exact.sound ts) (λ c hc. g.one hc)

choice_sound : (d : ℕ) → Sound (choice_at d) (IsChoice d)
unfolding choice_at after_open
choice_sound zero (Mark OpenParenthesis ∷ ts) = tt
choice_sound zero ts = one_sound zero ts
choice_sound (suc d) (Mark OpenParenthesis ∷ ts) = then (Behind d) ts (alternatives_at (choice_at d) ts) _ (IsChoice (suc d)) _ (alternatives_sound d (choice_at d) (choice_sound d) ts) (λ ps hps. hps)
choice_sound (suc d) ts = one_sound (suc d) ts

-- what is read as asked for is asked for
pub asked_sound : Sound pieces_at IsAsked
unfolding pieces_at
asked_sound ts = all_sound 16 (choice_at 16) (choice_sound 16) ts

-- ---- a phrase has a token

mutual
  choice_shorter : {d : ℕ} {ps : List Piece} {ts rest : List TokenKind} → IsChoice d ps ts rest → length rest < length ts
  choice_shorter (g.one {c} {ts} {rest} h) = condition_exact.shorter c ts rest h
  choice_shorter (g.alternatives hps hqs) = let one = all_shorter hps in let two = any_shorter hqs in omega arith

  all_shorter : {d : ℕ} {ps : List Piece} {ts rest : List TokenKind} → AreAll d ps ts rest → length rest < length ts
  all_shorter (g.last h) = choice_shorter h
  all_shorter (g.further h hs) = let one = choice_shorter h in let two = all_shorter hs in omega arith

  any_shorter : {d : ℕ} {ps : List Piece} {ts rest : List TokenKind} → AreAny d ps ts rest → length rest < length ts
  any_shorter (g.only h) = all_shorter h
  any_shorter (g.or_else h hs) = let one = all_shorter h in let two = any_shorter hs in omega arith

pub asked_shorter : {ps : List Piece} {ts rest : List TokenKind} → IsAsked ps ts rest → length rest < length ts
asked_shorter h = all_shorter h

-- ---- how phrases begin, and what follows them

-- where what is asked for ends, no condition goes on
ends_binds : (ts : List TokenKind) → ends_all ts ≡ true → 9 ≤ phrase_binds ts
unfolding ends_all
ends_binds (Word w ∷ rest) e = go (bytes_eq w (codes "or")) (bytes_eq w (codes "then")) refl refl e
  where
    go : (o t : Bool) → bytes_eq w (codes "or") ≡ o → bytes_eq w (codes "then") ≡ t → o || t ≡ true → 9 ≤ phrase_binds (Word w ∷ rest)
    go true t is_or is_then h = rw (same_bytes w (codes "or") is_or) (omega arith)
    go false true is_or is_then h = rw (same_bytes w (codes "then") is_then) (omega arith)
    go false false is_or is_then h = absurd cc
ends_binds (Mark CloseParenthesis ∷ rest) e = omega arith
ends_binds (Mark m ∷ rest) e = absurd cc
ends_binds ts e = omega arith

-- a condition is not the end of what is asked for, and begins with no parenthesis
record Starts (ts : List TokenKind) : Type 0 where
  goes_on : ends_all ts ≡ false
  shut : None ≡ after_open ts

condition_starts : (c : CondTree) (ts rest : List TokenKind) → IsCondition c ts rest → Starts ts
unfolding ends_all after_open is_ident
condition_starts c ts rest (g.plain (g.source {ty} g.unbound h hps hw he)) = record { goes_on = rw (ident_differs ty (codes "or") h refl, ident_differs ty (codes "then") h refl) refl; shut = refl }
condition_starts c ts rest (g.plain (g.source g.bound h hps hw he)) = record { goes_on = refl; shut = refl }
condition_starts c ts rest (g.negated h) = record { goes_on = refl; shut = refl }
condition_starts c ts rest (g.existing h) = record { goes_on = refl; shut = refl }
condition_starts c ts rest (g.folded (g.number_form g.unbound ht hs)) = record { goes_on = refl; shut = refl }
condition_starts c ts rest (g.folded (g.number_form g.bound ht hs)) = record { goes_on = refl; shut = refl }
condition_starts c ts rest (g.folded (g.accumulate_form hs ht)) = record { goes_on = refl; shut = refl }

choice_begins : {d : ℕ} {ps : List Piece} {ts rest : List TokenKind} → IsChoice d ps ts rest → (9 ≤ phrase_binds ts) × (ends_all ts ≡ false)
unfolding ends_all
choice_begins (g.one {c} {ts} {rest} h) = (condition_begins c ts rest h, (condition_starts c ts rest h).goes_on)
choice_begins (g.alternatives hps hqs) = (omega arith, refl)

all_begins : {d : ℕ} {ps : List Piece} {ts rest : List TokenKind} → AreAll d ps ts rest → (9 ≤ phrase_binds ts) × (ends_all ts ≡ false)
all_begins (g.last h) = choice_begins h
all_begins (g.further h hs) = choice_begins h

-- ---- what stands there is read

-- a choice that stands there is read
abbrev ChoiceAgain : ℕ → PieceReader → Type 0
ChoiceAgain d choice = (ps : List Piece) (ts rest : List TokenKind) → IsChoice d ps ts rest → 9 ≤ phrase_binds rest → choice ts ≡ Some (ps, rest)

-- what is asked for together is read, up to where it ends
abbrev AllAgain : ℕ → PieceReader → Type 0
AllAgain d all = (ps : List Piece) (ts rest : List TokenKind) → AreAll d ps ts rest → ends_all rest ≡ true → all ts ≡ Some (ps, rest)

all_turns_again : (d : ℕ) (choice : PieceReader) → ChoiceAgain d choice → {ps : List Piece} {ts rest : List TokenKind} → AreAll d ps ts rest → ends_all rest ≡ true → (n : ℕ) → length ts ≤ n
    → all_turns choice n ts ≡ Some (ps, rest)
unfolding all_turns
all_turns_again d choice again (g.last h) end zero le = let less = choice_shorter h in absurd (omega arith)
all_turns_again d choice again {ps} {ts} {rest} (g.last h) end (suc n) le = rw (again ps ts rest h (ends_binds rest end), end) refl
all_turns_again d choice again (g.further h hs) end zero le = let less = choice_shorter h in absurd (omega arith)
all_turns_again d choice again {ts} (g.further {ps} {middle} h hs) end (suc n) le =
    let less = choice_shorter h in
    let begun = all_begins hs in
    rw (again ps ts middle h begun.0, begun.1, all_turns_again d choice again hs end n (omega arith)) refl

all_again : (d : ℕ) (choice : PieceReader) → ChoiceAgain d choice → AllAgain d (all_at choice)
unfolding all_at
all_again d choice again ps ts rest h end = all_turns_again d choice again h end (length ts) (omega arith)

any_turns_again : (d : ℕ) (all : PieceReader) → AllAgain d all → {qs : List Piece} {ts rest : List TokenKind} → AreAny d qs ts rest → ends_all rest ≡ true → after_word (codes "or") rest ≡ None → (n : ℕ) → length ts ≤ n
    → any_turns all n ts ≡ Some (qs, rest)
unfolding any_turns ends_all
any_turns_again d all again (g.only h) end last zero le = let less = all_shorter h in absurd (omega arith)
any_turns_again d all again {qs} {ts} {rest} (g.only h) end last (suc n) le = rw (again qs ts rest h end, last) refl
any_turns_again d all again (g.or_else h hs) end last zero le = let less = all_shorter h in absurd (omega arith)
any_turns_again d all again {ts} (g.or_else {ps} {middle} h hs) end last (suc n) le =
    let less = all_shorter h in
    rw (again ps ts (Word (codes "or") ∷ middle) h refl, word_again (codes "or") middle, any_turns_again d all again hs end last n (omega arith)) refl

choice_again : (d : ℕ) → ChoiceAgain d (choice_at d)
unfolding choice_at after_open alternatives_at any_at ends_all after_word
choice_again d pieces ts rest (g.one {c} h) stop = rw (one_is d ts (condition_starts c ts rest h).shut, condition_exact.again c ts rest h stop) refl
choice_again (suc d) pieces whole rest (g.alternatives {ps} {qs} {ts} {middle} hps hqs) stop =
    let again = all_again d (choice_at d) (choice_again d) in
    rw (
      again ps ts (Word (codes "or") ∷ middle) hps refl,
      any_turns_again d (all_at (choice_at d)) again hqs refl refl (length middle) (omega arith),
      closed_is p.CloseParenthesis (ps ++ Or ∷ qs ++ Close ∷ []) rest,
    ) refl

-- what is asked for is read, if what follows ends it
pub asked_again : (ps : List Piece) (ts rest : List TokenKind) → IsAsked ps ts rest → ends_all rest ≡ true → pieces_at ts ≡ Some (ps, rest)
unfolding pieces_at
asked_again ps ts rest h end = all_again 16 (choice_at 16) (choice_again 16) ps ts rest h end
