-- Accumulates are read exactly.
use Rattle.drl_condition.proofs.Common.{◌≡◌, ◌&&◌, ℕ, ◌<◌, ◌≤◌, List, ◌∷◌, length, Option, Some, refl, subst, arith, codes, bytes_eq, TokenKind, Word, Var}
use Rattle.drl_condition.proofs.Common.{Mark, OpenParenthesis, CloseParenthesis, Comma, Colon, Comparison, Phrase, Found, Operand, SourceTree, FoldWord}
use Rattle.drl_condition.proofs.Common.{CondTree, Separated, Listed, fold_text, result_text, IsOperand, IsBinding, IsSource, IsFolded, phrase_binds}
use Rattle.drl_condition.proofs.Common.{ExactPhrase, separated_at, listed_at, then, if_some_then, guarded, same_bytes, closed_then, separated_exact}
use Rattle.drl_condition.proofs.Common.{listed_exact, source_at, Semicolon, IsValueTest, IsResultTest, AreResultTests, itself, fold_word, result_word}
use Rattle.{drl_condition.proofs.Common.{test_operand_at, binding_at}, std.proofs.lemmas.Bool.{and_parts}, drl_lex.specs.declared.token.Rel.{Rel}}
use Rattle.drl_grammar.specs.declared.condition.CondTree.TheVariants as condition
use Rattle.drl_grammar.specs.Conditions as g
use Rattle.drl_phrase.specs.declared.phrase.Punctuation.TheVariants as p
use Rattle.{drl_phrase.specs.Reading.{closed, after}, drl_condition.specs.Reading.{window_at, place_at, value_test_at, result_test_at, result_tests_at}}
use Rattle.drl_condition.specs.Reading.{call_at, last_call_at, number_call_at, number_source_at, number_tests_at, number_at, result_at, accumulate_call_at}
use Rattle.drl_condition.{specs.Reading.{accumulate_at}, proofs.{WordLaws.{fold_sound, fold_again, result_sound, result_again}, ValueLaws.{operand_exact}}}
use Rattle.drl_condition.proofs.PatternLaws.{binding_sound, binding_again, binding_shorter, source_again, source_exact}

-- ---- tests of the result

value_test_exact : ExactPhrase IsValueTest value_test_at 1
unfolding value_test_at
value_test_exact = record { sound = sound; again = again; shorter = shorter }
  where
    sound : (ts : List TokenKind) → Found IsValueTest ts (value_test_at ts)
    sound (Word w ∷ Mark (Comparison r) ∷ ts) = if_some_then (result_word w) (λ k. w ≡ result_text k) _ IsValueTest _ (result_sound w) (λ k e. rw e (
        then IsOperand ts (test_operand_at ts) _ IsValueTest _ (operand_exact.sound ts) (λ o ho. g.value_test k ho)))
    sound ts = tt

    again : (x : Rel × Operand) (ts rest : List TokenKind) → IsValueTest x ts rest → 1 ≤ phrase_binds rest → value_test_at ts ≡ Some (x, rest)
    again x ts rest (g.value_test k {o} {ts = inner} h) stop = rw (result_again k, operand_exact.again o inner rest h stop) refl

    shorter : (x : Rel × Operand) (ts rest : List TokenKind) → IsValueTest x ts rest → length rest < length ts
    shorter x ts rest (g.value_test k {o} {ts = inner} h) = let less = operand_exact.shorter o inner rest h in omega arith

value_tests_exact : ExactPhrase (Listed IsValueTest) (listed_at value_test_at) 0
unfolding value_test_at
value_tests_exact = listed_exact (omega arith) value_test_exact (λ rest. refl)

result_test_exact : (v : List ℕ) → ExactPhrase (IsResultTest v) (result_test_at v) 1
unfolding result_test_at
result_test_exact v = record { sound = sound; again = again; shorter = shorter }
  where
    sound : (ts : List TokenKind) → Found (IsResultTest v) ts (result_test_at v ts)
    sound (Var w ∷ Mark (Comparison r) ∷ ts) = guarded (IsResultTest v) _ (bytes_eq w v) _ (λ e. rw (same_bytes w v e) (
        then IsOperand ts (test_operand_at ts) _ (IsResultTest v) _ (operand_exact.sound ts) (λ o ho. g.result_test ho)))
    sound ts = tt

    again : (x : Rel × Operand) (ts rest : List TokenKind) → IsResultTest v x ts rest → 1 ≤ phrase_binds rest → result_test_at v ts ≡ Some (x, rest)
    again x ts rest (g.result_test {o} {ts = inner} h) stop = rw (itself v, operand_exact.again o inner rest h stop) refl

    shorter : (x : Rel × Operand) (ts rest : List TokenKind) → IsResultTest v x ts rest → length rest < length ts
    shorter x ts rest (g.result_test {o} {ts = inner} h) = let less = operand_exact.shorter o inner rest h in omega arith

result_tests_exact : (v : List ℕ) → ExactPhrase (AreResultTests v) (result_tests_at v) 0
unfolding result_tests_at closed after
result_tests_exact v = record { sound = sound; again = again; shorter = shorter }
  where
    list : ExactPhrase (Separated (Mark Comma) (IsResultTest v)) (separated_at (result_test_at v) p.Comma) 6
    list = separated_exact p.Comma (omega arith) (result_test_exact v)

    sound : (ts : List TokenKind) → Found (AreResultTests v) ts (result_tests_at v ts)
    sound (Mark CloseParenthesis ∷ rest) = g.no_tests
    sound (Mark Semicolon ∷ ts) = then (Separated (Mark Comma) (IsResultTest v)) ts (separated_at (result_test_at v) p.Comma ts) _ (AreResultTests v) _ (list.sound ts) (λ rs hrs.
        closed_then p.CloseParenthesis (Separated (Mark Comma) (IsResultTest v)) rs.0 ts _ rs.1 (AreResultTests v) _ hrs (λ rest hr. g.tests hr))
    sound ts = tt

    again : (xs : List (Rel × Operand)) (ts rest : List TokenKind) → AreResultTests v xs ts rest → 0 ≤ phrase_binds rest → result_tests_at v ts ≡ Some (xs, rest)
    again xs ts rest g.no_tests stop = refl
    again xs ts rest (g.tests {ts = inner} h) stop = rw (list.again xs inner (Mark CloseParenthesis ∷ rest) h (omega arith)) refl

    shorter : (xs : List (Rel × Operand)) (ts rest : List TokenKind) → AreResultTests v xs ts rest → length rest < length ts
    shorter xs ts rest g.no_tests = omega arith
    shorter xs ts rest (g.tests {ts = inner} h) = let less = list.shorter xs inner (Mark CloseParenthesis ∷ rest) h in omega arith

-- ---- the function and its argument

abbrev IsCall : Phrase (FoldWord × List ℕ)
IsCall call ts rest = ts ≡ Word (fold_text call.0) ∷ Mark OpenParenthesis ∷ Var call.1 ∷ Mark CloseParenthesis ∷ rest

call_sound : (ts : List TokenKind) → Found IsCall ts (call_at ts)
unfolding call_at
call_sound (Word w ∷ Mark OpenParenthesis ∷ Var arg ∷ Mark CloseParenthesis ∷ rest) = if_some_then (fold_word w) (λ k. w ≡ fold_text k) _ IsCall _ (fold_sound w) (λ k e. rw e refl)
call_sound ts = tt

call_again : (k : FoldWord) (arg : List ℕ) (rest : List TokenKind) → call_at (Word (fold_text k) ∷ Mark OpenParenthesis ∷ Var arg ∷ Mark CloseParenthesis ∷ rest) ≡ Some ((k, arg), rest)
unfolding call_at
call_again k arg rest = rw (fold_again k) refl

-- ---- Number(..) from accumulate(..)

abbrev IsLastCall : Phrase (FoldWord × List ℕ)
IsLastCall call ts rest = ts ≡ Mark Comma ∷ Word (fold_text call.0) ∷ Mark OpenParenthesis ∷ Var call.1 ∷ Mark CloseParenthesis ∷ Mark CloseParenthesis ∷ rest

last_call_sound : (ts : List TokenKind) → Found IsLastCall ts (last_call_at ts)
unfolding last_call_at
last_call_sound (Mark Comma ∷ ts) = then IsCall ts (call_at ts) _ IsLastCall _ (call_sound ts) (λ call e.
    closed_then p.CloseParenthesis IsCall call.0 ts call.0 call.1 IsLastCall _ e (λ rest hr. rw hr refl))
last_call_sound ts = tt

number_call_sound : (v : Option (List ℕ)) (tests : List (Rel × Operand)) (s : SourceTree) (whole inner source_tokens ts : List TokenKind)
    → IsBinding v whole (Word (codes "Number") ∷ Mark OpenParenthesis ∷ inner) → Listed IsValueTest tests inner (Word (codes "from") ∷ Word (codes "accumulate") ∷ Mark OpenParenthesis ∷ source_tokens)
    → IsSource s source_tokens ts → Found IsFolded whole (number_call_at v tests s ts)
unfolding number_call_at
number_call_sound v tests s whole inner source_tokens ts hv ht hs = then IsLastCall ts (last_call_at ts) _ IsFolded _ (last_call_sound ts) (λ call e.
    g.number_form hv ht (subst (IsSource s source_tokens) e hs))

number_source_sound : (v : Option (List ℕ)) (tests : List (Rel × Operand)) (whole inner ts : List TokenKind)
    → IsBinding v whole (Word (codes "Number") ∷ Mark OpenParenthesis ∷ inner) → Listed IsValueTest tests inner ts → Found IsFolded whole (number_source_at v tests ts)
unfolding number_source_at
number_source_sound v tests whole inner (Word f ∷ Word a ∷ Mark OpenParenthesis ∷ ts) hv ht = guarded IsFolded whole (bytes_eq f (codes "from") && bytes_eq a (codes "accumulate")) _ (λ h.
    let words = and_parts (bytes_eq f (codes "from")) (bytes_eq a (codes "accumulate")) h in
    let one = subst (λ (w : List ℕ). Listed IsValueTest tests inner (Word w ∷ Word a ∷ Mark OpenParenthesis ∷ ts)) (same_bytes f (codes "from") words.0) ht in
    let two = subst (λ (w : List ℕ). Listed IsValueTest tests inner (Word (codes "from") ∷ Word w ∷ Mark OpenParenthesis ∷ ts)) (same_bytes a (codes "accumulate") words.1) one in
    then IsSource ts (source_at ts) _ IsFolded whole (source_exact.sound ts) (λ s hs. number_call_sound v tests s.0 whole inner ts s.1 hv two hs))
number_source_sound v tests whole inner ts hv ht = tt

number_tests_sound : (v : Option (List ℕ)) (whole ts : List TokenKind) → IsBinding v whole ts → Found IsFolded whole (number_tests_at v ts)
unfolding number_tests_at
number_tests_sound v whole (Word w ∷ Mark OpenParenthesis ∷ inner) hv = guarded IsFolded whole (bytes_eq w (codes "Number")) _ (λ e.
    then (Listed IsValueTest) inner (listed_at value_test_at inner) _ IsFolded whole (value_tests_exact.sound inner) (λ tests ht.
    number_source_sound v tests.0 whole inner tests.1 (subst (λ (n : List ℕ). IsBinding v whole (Word n ∷ Mark OpenParenthesis ∷ inner)) (same_bytes w (codes "Number") e) hv) ht))
number_tests_sound v whole ts hv = tt

pub number_sound : (ts : List TokenKind) → Found IsFolded ts (number_at ts)
unfolding number_at
number_sound ts = number_tests_sound (binding_at ts).0 ts (binding_at ts).1 (binding_sound ts)

pub number_again : (v : Option (List ℕ)) (s : SourceTree) (k : FoldWord) (arg : List ℕ) (tests : List (Rel × Operand)) (ts inner source_tokens rest : List TokenKind)
    → IsBinding v ts (Word (codes "Number") ∷ Mark OpenParenthesis ∷ inner)
    → Listed IsValueTest tests inner (Word (codes "from") ∷ Word (codes "accumulate") ∷ Mark OpenParenthesis ∷ source_tokens)
    → IsSource s source_tokens (Mark Comma ∷ Word (fold_text k) ∷ Mark OpenParenthesis ∷ Var arg ∷ Mark CloseParenthesis ∷ Mark CloseParenthesis ∷ rest)
    → number_at ts ≡ Some (condition.Folded v s k arg tests, rest)
unfolding number_at number_tests_at number_source_at number_call_at last_call_at window_at place_at closed after
number_again v s k arg tests ts inner source_tokens rest hv ht hs =
    rw (
      binding_again v ts (codes "Number") (Mark OpenParenthesis ∷ inner) hv,
      value_tests_exact.again tests inner (Word (codes "from") ∷ Word (codes "accumulate") ∷ Mark OpenParenthesis ∷ source_tokens) ht (omega arith),
      source_again s source_tokens (Mark Comma ∷ Word (fold_text k) ∷ Mark OpenParenthesis ∷ Var arg ∷ Mark CloseParenthesis ∷ Mark CloseParenthesis ∷ rest) hs refl refl,
      call_again k arg (Mark CloseParenthesis ∷ rest),
    ) refl

-- ---- accumulate(..)

abbrev IsResult : Phrase (List ℕ × (FoldWord × List ℕ) × List (Rel × Operand))
IsResult r ts rest = (behind : List TokenKind)
    × (ts ≡ Mark Semicolon ∷ Var r.0 ∷ Mark Colon ∷ Word (fold_text r.1.0) ∷ Mark OpenParenthesis ∷ Var r.1.1 ∷ Mark CloseParenthesis ∷ behind) × AreResultTests r.0 r.2 behind rest

result_found : (ts : List TokenKind) → Found IsResult ts (result_at ts)
unfolding result_at
result_found (Mark Semicolon ∷ Var v ∷ Mark Colon ∷ ts) = then IsCall ts (call_at ts) _ IsResult _ (call_sound ts) (λ call e.
    then (AreResultTests v) call.1 (result_tests_at v call.1) _ IsResult _ ((result_tests_exact v).sound call.1) (λ tests ht. (call.1, rw e refl, ht)))
result_found ts = tt

accumulate_call_sound : (s : SourceTree) (source_tokens ts : List TokenKind) → IsSource s source_tokens ts → Found IsFolded (Word (codes "accumulate") ∷ Mark OpenParenthesis ∷ source_tokens) (accumulate_call_at s ts)
unfolding accumulate_call_at
accumulate_call_sound s source_tokens ts hs = then IsResult ts (result_at ts) _ IsFolded _ (result_found ts) (λ r h. g.accumulate_form (subst (IsSource s source_tokens) h.1 hs) h.2)

pub accumulate_sound : (ts : List TokenKind) → Found IsFolded (Word (codes "accumulate") ∷ ts) (accumulate_at ts)
unfolding accumulate_at
accumulate_sound (Mark OpenParenthesis ∷ ts) = then IsSource ts (source_at ts) _ IsFolded _ (source_exact.sound ts) (λ s hs. accumulate_call_sound s.0 ts s.1 hs)
accumulate_sound ts = tt

pub accumulate_again : (v : List ℕ) (s : SourceTree) (k : FoldWord) (arg : List ℕ) (tests : List (Rel × Operand)) (ts behind rest : List TokenKind)
    → IsSource s ts (Mark Semicolon ∷ Var v ∷ Mark Colon ∷ Word (fold_text k) ∷ Mark OpenParenthesis ∷ Var arg ∷ Mark CloseParenthesis ∷ behind)
    → AreResultTests v tests behind rest → accumulate_at (Mark OpenParenthesis ∷ ts) ≡ Some (condition.Folded (Some v) s k arg tests, rest)
unfolding accumulate_at accumulate_call_at result_at window_at place_at
accumulate_again v s k arg tests ts behind rest hs ht =
    rw (
      source_again s ts (Mark Semicolon ∷ Var v ∷ Mark Colon ∷ Word (fold_text k) ∷ Mark OpenParenthesis ∷ Var arg ∷ Mark CloseParenthesis ∷ behind) hs refl refl,
      call_again k arg behind,
      (result_tests_exact v).again tests behind rest ht (omega arith),
    ) refl

pub folded_shorter : (c : CondTree) (ts rest : List TokenKind) → IsFolded c ts rest → length rest < length ts
folded_shorter c ts rest (g.number_form {result} {s} {word} {arg} {tests} {inner} {source_tokens} hv ht hs) =
    let one = binding_shorter result ts (Word (codes "Number") ∷ Mark OpenParenthesis ∷ inner) hv in
    let two = value_tests_exact.shorter tests inner (Word (codes "from") ∷ Word (codes "accumulate") ∷ Mark OpenParenthesis ∷ source_tokens) ht in
    let three = source_exact.shorter s source_tokens (Mark Comma ∷ Word (fold_text word) ∷ Mark OpenParenthesis ∷ Var arg ∷ Mark CloseParenthesis ∷ Mark CloseParenthesis ∷ rest) hs in omega arith
folded_shorter c ts rest (g.accumulate_form {result} {s} {word} {arg} {tests} {ts = inner} {behind} hs ht) =
    let one = source_exact.shorter s inner (Mark Semicolon ∷ Var result ∷ Mark Colon ∷ Word (fold_text word) ∷ Mark OpenParenthesis ∷ Var arg ∷ Mark CloseParenthesis ∷ behind) hs in
    let two = (result_tests_exact result).shorter tests behind rest ht in omega arith
