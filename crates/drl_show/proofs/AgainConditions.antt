-- The tokens of a condition, and of its parts, stand for it again, whatever follows.
use Rattle.drl_show.proofs.Common.{◌≡◌, ℕ, ℤ, zero, suc, pos, ◌<◌, ◌^◌, true, List, [], ◌∷◌, ◌++◌, Option, Some, refl, sym, ap, subst, ◌∙◌, append_assoc, arith}
use Rattle.drl_show.proofs.Common.{neg_ℤ, codes, list_all, TokenKind, Word, Var, Text, Mark, OpenParenthesis, CloseParenthesis, OpenBracket, CloseBracket}
use Rattle.drl_show.proofs.Common.{Comma, Semicolon, Colon, Dot, Comparison, SourceTree, FoldWord, Separated, Listed, parted, maybe, listed, number_tokens}
use Rattle.drl_show.proofs.Common.{literal_tokens, param_tokens, Or, And, op_text, fold_text, IsLiteral, IsOperand, IsSpan, IsName, IsCmp, IsConj, IsDisj}
use Rattle.drl_show.proofs.Common.{AreParams, IsPart, IsWindow, IsPlace, IsBinding, IsSource, IsGroup, IsValueTest, IsResultTest, AreResultTests, IsFolded}
use Rattle.drl_show.proofs.Common.{IsCondition, operand_tokens, cmp_tokens, conj_tokens, disj_tokens, part_tokens, window_tokens, place_tokens, binding_tokens}
use Rattle.{drl_show.proofs.Common.{test_tokens, group_tokens, condition_tokens}, temporal_ops.specs.declared.word.OpWord.{OpWord, TheVariants.{After, Before}}}
use Rattle.temporal_ops.specs.declared.word.OpWord.TheVariants.{Coincides, During, Includes, Finishes, FinishedBy, Starts, StartedBy, Meets, MetBy, Overlaps}
use Rattle.{temporal_ops.specs.declared.word.OpWord.TheVariants.{OverlappedBy}, drl_lex.specs.{Bytes.{begins_word, is_word_byte}, declared.token.Rel.{Rel}}}
use Rattle.drl_grammar.specs.declared.condition.{Operand.{Operand}, FoldWord.TheVariants.{Count, Sum, Min, Max, Average}, CondTree.{CondTree}}
use Rattle.drl_grammar.specs.declared.condition.ResultWord.TheVariants.{LongValue}
use Rattle.drl_grammar.specs.Shapes as shapes
use Rattle.drl_expr.specs.declared.literal.LitTree.TheVariants as lit
use Rattle.drl_grammar.specs.declared.condition.CondTree.TheVariants as condition
use Rattle.drl_grammar.specs.Conditions as g
use Rattle.drl_show.{specs.Canonical.{source_tokens, function_tokens, accumulate_tokens}, proofs.Fine.{Good, AllGood, fine, fine_word, fine_var, fine_number}}
use Rattle.drl_show.proofs.{Fine.{fine_text, fine_append, word_is_text}, AgainShapes.{Again, Agains, regroup, maybe_again, separated_again, listed_again}}

-- ---- words with a meaning of their own in one place

op_fine : (op : OpWord) (ts : List TokenKind) → list_all fine ts ≡ true → list_all fine (Word (op_text op) ∷ ts) ≡ true
unfolding begins_word is_word_byte
op_fine After ts h = h
op_fine Before ts h = h
op_fine Coincides ts h = h
op_fine During ts h = h
op_fine Includes ts h = h
op_fine Finishes ts h = h
op_fine FinishedBy ts h = h
op_fine Starts ts h = h
op_fine StartedBy ts h = h
op_fine Meets ts h = h
op_fine MetBy ts h = h
op_fine Overlaps ts h = h
op_fine OverlappedBy ts h = h

fold_fine : (word : FoldWord) (ts : List TokenKind) → list_all fine ts ≡ true → list_all fine (Word (fold_text word) ∷ ts) ≡ true
unfolding begins_word is_word_byte
fold_fine Count ts h = h
fold_fine Sum ts h = h
fold_fine Min ts h = h
fold_fine Max ts h = h
fold_fine Average ts h = h

-- ---- numbers

pub negative_fine : (n : ℕ) → n < 2 ^ 63 → list_all fine (number_tokens (neg_ℤ (pos n))) ≡ true
negative_fine zero low = fine_number 0 [] low refl
negative_fine (suc n) low = fine_number (suc n) [] low refl

negative_span : (n : ℕ) (k : List TokenKind) → IsSpan (neg_ℤ (pos n)) (number_tokens (neg_ℤ (pos n)) ++ k) k
negative_span zero k = g.number_span
negative_span (suc n) k = g.negative_number {n = suc n}

pub span_again : Agains IsSpan IsSpan number_tokens
span_again x ts rest (g.number_span {n}) good = record { stands = λ k. g.number_span; is_fine = fine_number n [] good.0 refl; behind = good.1 }
span_again x ts rest (g.time_span {n}) good = let low = good.0 in record { stands = λ k. g.number_span; is_fine = fine_number n [] (omega arith) refl; behind = good.1 }
span_again x ts rest (g.negative_number {n}) good = record { stands = negative_span n; is_fine = negative_fine n good.1.0; behind = good.1.1 }
span_again x ts rest (g.negative_time {n}) good = let low = good.1.0 in record { stands = negative_span n; is_fine = negative_fine n (omega arith); behind = good.1.1 }

negative_literal : (n : ℕ) (k : List TokenKind) → IsLiteral (lit.Int (neg_ℤ (pos n))) (number_tokens (neg_ℤ (pos n)) ++ k) k
negative_literal zero k = g.number
negative_literal (suc n) k = g.negative {n = suc n}

literal_again : Agains IsLiteral IsLiteral literal_tokens
unfolding begins_word is_word_byte
literal_again x ts rest (g.number {n}) good = record { stands = λ k. g.number; is_fine = fine_number n [] good.0 refl; behind = good.1 }
literal_again x ts rest (g.negative {n}) good = record { stands = negative_literal n; is_fine = negative_fine n good.1.0; behind = good.1.1 }
literal_again x ts rest (g.text {s}) good = record { stands = λ k. g.text; is_fine = fine_text s [] good.0 refl; behind = good.1 }
literal_again x ts rest g.yes_word good = record { stands = λ k. g.yes_word; is_fine = refl; behind = good.1 }
literal_again x ts rest g.no_word good = record { stands = λ k. g.no_word; is_fine = refl; behind = good.1 }

operand_again : Agains IsOperand IsOperand operand_tokens
operand_again x ts rest (g.literal {l} h) good = let one = literal_again l ts rest h good in record { stands = λ k. g.literal (one.stands k); is_fine = one.is_fine; behind = one.behind }
operand_again x ts rest (g.variable {v}) good = record { stands = λ k. g.variable; is_fine = fine_var v [] good.0 refl; behind = good.1 }
operand_again x ts rest (g.field_of {v} {f} h) good =
    record { stands = λ k. g.field_of h; is_fine = fine_var v (Mark Dot ∷ Word f ∷ []) good.0 (fine_word f [] h good.1.1.0 refl); behind = good.1.1.1 }
operand_again x ts rest (g.own {f} h) good = record { stands = λ k. g.own h; is_fine = fine_word f [] h good.0 refl; behind = good.1 }

-- a name is written as a text
pub name_again : Agains IsName IsName (λ s. Text s ∷ [])
name_again x ts rest (g.quoted {s}) good = record { stands = λ k. g.quoted; is_fine = fine_text s [] good.0 refl; behind = good.1 }
name_again x ts rest (g.plain_word {s} h) good = record { stands = λ k. g.quoted; is_fine = fine_text s [] (word_is_text s good.0) refl; behind = good.1 }

-- ---- what stands in the parentheses of a pattern

cmp_again : Agains IsCmp IsCmp cmp_tokens
unfolding begins_word is_word_byte
cmp_again x ts rest (g.rel {f} {r} {o} {ts = os} h ho) good =
    let one = operand_again o os rest ho good.1.1 in
    record { stands = λ k. g.rel h (one.stands k); is_fine = fine_word f (Mark (Comparison r) ∷ operand_tokens o) h good.0 one.is_fine; behind = one.behind }
cmp_again x ts rest (g.one_of {f} {os} {ts = inner} h hos) good =
    let all = separated_again operand_again Comma os inner (Mark CloseParenthesis ∷ rest) hos good.1.1.1 in
    record {
      stands = λ k. regroup IsCmp x (Word f ∷ Word (codes "in") ∷ Mark OpenParenthesis ∷ parted Comma operand_tokens os) (Mark CloseParenthesis ∷ []) k (g.one_of h (all.stands (Mark CloseParenthesis ∷ k)));
      is_fine = fine_word f (Word (codes "in") ∷ Mark OpenParenthesis ∷ listed operand_tokens os) h good.0 (fine_append (parted Comma operand_tokens os) (Mark CloseParenthesis ∷ []) all.is_fine refl);
      behind = all.behind.1;
    }

conj_again : Agains IsConj IsConj conj_tokens
conj_again = separated_again cmp_again And

disj_again : Agains IsDisj IsDisj disj_tokens
disj_again = separated_again conj_again Or

bracketed_again : (ps : List ℤ) (ts rest : List TokenKind) → Separated (Mark Comma) IsSpan ps ts (Mark CloseBracket ∷ rest) → AllGood ts → Again AreParams (param_tokens ps) ps rest
bracketed_again [] ts rest h good = elim h [ ]
bracketed_again (p ∷ ps) ts rest h good =
    let all = separated_again span_again Comma (p ∷ ps) ts (Mark CloseBracket ∷ rest) h good in
    record {
      stands = λ k. regroup AreParams (p ∷ ps) (Mark OpenBracket ∷ parted Comma number_tokens (p ∷ ps)) (Mark CloseBracket ∷ []) k (g.bracketed (all.stands (Mark CloseBracket ∷ k)));
      is_fine = fine_append (parted Comma number_tokens (p ∷ ps)) (Mark CloseBracket ∷ []) all.is_fine refl;
      behind = all.behind.1;
    }

params_again : Agains AreParams AreParams param_tokens
params_again ps ts rest g.no_params good = record { stands = λ k. g.no_params; is_fine = refl; behind = good }
params_again ps ts rest (g.bracketed {ts = inner} h) good = bracketed_again ps inner rest h good.1

part_again : Agains IsPart IsPart part_tokens
unfolding begins_word is_word_byte
part_again x ts rest (g.bind {v} {f} h) good =
    record { stands = λ k. g.bind h; is_fine = fine_var v (Mark Colon ∷ Word f ∷ []) good.0 (fine_word f [] h good.1.1.0 refl); behind = good.1.1.1 }
part_again x ts rest (g.temporal {op} {ps} {v} {ts = inner} h) good =
    let all = params_again ps inner (Var v ∷ rest) h good.1.1 in
    record {
      stands = λ k. regroup IsPart x (Word (codes "this") ∷ Word (op_text op) ∷ param_tokens ps) (Var v ∷ []) k (g.temporal (all.stands (Var v ∷ k)));
      is_fine = op_fine op (param_tokens ps ++ (Var v ∷ [])) (fine_append (param_tokens ps) (Var v ∷ []) all.is_fine (fine_var v [] all.behind.0 refl));
      behind = all.behind.1;
    }
part_again x ts rest (g.any_of {d} h) good = let all = disj_again d ts rest h good in record { stands = λ k. g.any_of (all.stands k); is_fine = all.is_fine; behind = all.behind }

-- ---- patterns

window_again : Agains IsWindow IsWindow window_tokens
unfolding begins_word is_word_byte
window_again x ts rest (g.time {ms} {ts = inner} h) good =
    let one = span_again ms inner (Mark CloseParenthesis ∷ rest) h good.1.1.1.1.1 in
    record {
      stands = λ k. regroup IsWindow x (Word (codes "over") ∷ Word (codes "window") ∷ Mark Colon ∷ Word (codes "time") ∷ Mark OpenParenthesis ∷ number_tokens ms) (Mark CloseParenthesis ∷ []) k (g.time (one.stands (Mark CloseParenthesis ∷ k)));
      is_fine = fine_append (number_tokens ms) (Mark CloseParenthesis ∷ []) one.is_fine refl;
      behind = one.behind.1;
    }
window_again x ts rest (g.length {n}) good = record { stands = λ k. g.length; is_fine = fine_number n (Mark CloseParenthesis ∷ []) good.1.1.1.1.1.0 refl; behind = good.1.1.1.1.1.1.1 }

place_again : Agains IsPlace IsPlace place_tokens
unfolding begins_word is_word_byte
place_again x ts rest (g.place {s} {ts = inner} h) good =
    let one = name_again s inner rest h good.1.1.1.1 in record { stands = λ k. g.place (one.stands k); is_fine = one.is_fine; behind = one.behind }

binding_again : Agains IsBinding IsBinding binding_tokens
binding_again x ts rest g.unbound good = record { stands = λ k. g.unbound; is_fine = refl; behind = good }
binding_again x ts rest (g.bound {v}) good = record { stands = λ k. g.bound; is_fine = fine_var v (Mark Colon ∷ []) good.0 refl; behind = good.1.1 }

source_order : (a b c d k : List TokenKind) (t u : TokenKind) → (a ++ (t ∷ u ∷ (b ++ (c ++ d)))) ++ k ≡ a ++ (t ∷ u ∷ (b ++ (c ++ (d ++ k))))
source_order a b c d k t u = append_assoc a (t ∷ u ∷ (b ++ (c ++ d))) k ∙ ap (λ (ts : List TokenKind). a ++ (t ∷ u ∷ ts)) (append_assoc b (c ++ d) k ∙ ap (λ (ts : List TokenKind). b ++ ts) (append_assoc c d k))

pub source_again : Agains IsSource IsSource source_tokens
unfolding source_tokens
source_again x ts rest (g.source {v} {ty} {ps} {w} {e} {inner} {behind} {middle} hv hty hps hw he) good =
    let a = binding_again v ts (Word ty ∷ Mark OpenParenthesis ∷ inner) hv good in
    let b = listed_again part_again ps inner behind hps a.behind.1.1 in
    let c = maybe_again window_again w behind middle hw b.behind in
    let d = maybe_again place_again e middle rest he c.behind in
    record {
      stands = λ k. subst (λ (all : List TokenKind). IsSource x all k)
          (sym (source_order (binding_tokens v) (listed part_tokens ps) (maybe window_tokens w) (maybe place_tokens e) k (Word ty) (Mark OpenParenthesis)))
          (g.source (a.stands (Word ty ∷ Mark OpenParenthesis ∷ (listed part_tokens ps ++ (maybe window_tokens w ++ (maybe place_tokens e ++ k))))) hty
          (b.stands (maybe window_tokens w ++ (maybe place_tokens e ++ k))) (c.stands (maybe place_tokens e ++ k)) (d.stands k));
      is_fine = fine_append (binding_tokens v) (Word ty ∷ Mark OpenParenthesis ∷ (listed part_tokens ps ++ (maybe window_tokens w ++ maybe place_tokens e))) a.is_fine
          (fine_word ty (Mark OpenParenthesis ∷ (listed part_tokens ps ++ (maybe window_tokens w ++ maybe place_tokens e))) hty a.behind.0
          (fine_append (listed part_tokens ps) (maybe window_tokens w ++ maybe place_tokens e) b.is_fine (fine_append (maybe window_tokens w) (maybe place_tokens e) c.is_fine d.is_fine)));
      behind = d.behind;
    }

group_again : Agains IsGroup IsGroup group_tokens
group_again x ts rest (g.in_parentheses {ts = inner} h) good =
    let one = source_again x inner (Mark CloseParenthesis ∷ rest) h good.1 in
    record {
      stands = λ k. regroup IsGroup x (Mark OpenParenthesis ∷ source_tokens x) (Mark CloseParenthesis ∷ []) k (g.in_parentheses (one.stands (Mark CloseParenthesis ∷ k)));
      is_fine = fine_append (source_tokens x) (Mark CloseParenthesis ∷ []) one.is_fine refl;
      behind = one.behind.1;
    }
group_again x ts rest (g.open_group h) good =
    let one = source_again x ts rest h good in
    record {
      stands = λ k. regroup IsGroup x (Mark OpenParenthesis ∷ source_tokens x) (Mark CloseParenthesis ∷ []) k (g.in_parentheses (one.stands (Mark CloseParenthesis ∷ k)));
      is_fine = fine_append (source_tokens x) (Mark CloseParenthesis ∷ []) one.is_fine refl;
      behind = one.behind;
    }

-- ---- accumulates

value_test_again : Agains IsValueTest IsValueTest test_tokens
unfolding begins_word is_word_byte
value_test_again x ts rest (g.value_test word {r} {o} {ts = os} h) good =
    let one = operand_again o os rest h good.1.1 in record { stands = λ k. g.value_test LongValue (one.stands k); is_fine = one.is_fine; behind = one.behind }

-- a test of the bound variable is written as one of the value
result_test_again : (v : List ℕ) → Agains (IsResultTest v) IsValueTest test_tokens
unfolding begins_word is_word_byte
result_test_again v x ts rest (g.result_test {r} {o} {ts = os} h) good =
    let one = operand_again o os rest h good.1.1 in record { stands = λ k. g.value_test LongValue (one.stands k); is_fine = one.is_fine; behind = one.behind }

result_tests_again : (v : List ℕ) → Agains (AreResultTests v) (Listed IsValueTest) (listed test_tokens)
result_tests_again v x ts rest g.no_tests good = listed_again (result_test_again v) x ts rest shapes.empty good
result_tests_again v x ts rest (g.tests {ts = inner} h) good = listed_again (result_test_again v) x inner rest (shapes.members h) good.1

folded_order : (a b c d k : List TokenKind) (t u v w x : TokenKind) → (a ++ (t ∷ u ∷ (b ++ (v ∷ w ∷ x ∷ (c ++ d))))) ++ k ≡ a ++ (t ∷ u ∷ (b ++ (v ∷ w ∷ x ∷ (c ++ (d ++ k)))))
folded_order a b c d k t u v w x = append_assoc a (t ∷ u ∷ (b ++ (v ∷ w ∷ x ∷ (c ++ d)))) k
    ∙ ap (λ (ts : List TokenKind). a ++ (t ∷ u ∷ ts)) (append_assoc b (v ∷ w ∷ x ∷ (c ++ d)) k ∙ ap (λ (ts : List TokenKind). b ++ (v ∷ w ∷ x ∷ ts)) (append_assoc c d k))

function_fine : (word : FoldWord) (arg : List ℕ) → Good (Var arg) → list_all fine (function_tokens word arg) ≡ true
unfolding function_tokens
function_fine word arg good = fold_fine word (Mark OpenParenthesis ∷ Var arg ∷ Mark CloseParenthesis ∷ Mark CloseParenthesis ∷ []) (fine_var arg (Mark CloseParenthesis ∷ Mark CloseParenthesis ∷ []) good refl)

-- the form with `Number`, from the parts of any form
folded_as : (result : Option (List ℕ)) (s : SourceTree) (word : FoldWord) (arg : List ℕ) (tests : List (Rel × Operand)) (rest : List TokenKind)
    → ((k : List TokenKind) → IsBinding result (binding_tokens result ++ k) k) → list_all fine (binding_tokens result) ≡ true
    → ((k : List TokenKind) → Listed IsValueTest tests (listed test_tokens tests ++ k) k) → list_all fine (listed test_tokens tests) ≡ true
    → ((k : List TokenKind) → IsSource s (source_tokens s ++ k) k) → list_all fine (source_tokens s) ≡ true → Good (Var arg) → AllGood rest
    → Again IsCondition (condition_tokens (condition.Folded result s word arg tests)) (condition.Folded result s word arg tests) rest
unfolding accumulate_tokens function_tokens begins_word is_word_byte
folded_as result s word arg tests rest binds binds_fine tested tested_fine from from_fine good behind = record {
  stands = λ k. subst (λ (all : List TokenKind). IsCondition (condition.Folded result s word arg tests) all k)
      (sym (folded_order (binding_tokens result) (listed test_tokens tests) (source_tokens s) (function_tokens word arg) k (Word (codes "Number")) (Mark OpenParenthesis) (Word (codes "from")) (Word (codes "accumulate")) (Mark OpenParenthesis)))
      (g.folded (g.number_form
      (binds (Word (codes "Number") ∷ Mark OpenParenthesis ∷ (listed test_tokens tests ++ (Word (codes "from") ∷ Word (codes "accumulate") ∷ Mark OpenParenthesis ∷ (source_tokens s ++ (function_tokens word arg ++ k))))))
      (tested (Word (codes "from") ∷ Word (codes "accumulate") ∷ Mark OpenParenthesis ∷ (source_tokens s ++ (function_tokens word arg ++ k)))) (from (function_tokens word arg ++ k))));
  is_fine = fine_append (binding_tokens result) (Word (codes "Number") ∷ Mark OpenParenthesis ∷ (listed test_tokens tests ++ accumulate_tokens s word arg)) binds_fine
      (fine_append (listed test_tokens tests) (accumulate_tokens s word arg) tested_fine (fine_append (source_tokens s) (function_tokens word arg) from_fine (function_fine word arg good)));
  behind = behind;
}

folded_again : (c : CondTree) (ts rest : List TokenKind) → IsFolded c ts rest → AllGood ts → Again IsCondition (condition_tokens c) c rest
folded_again c ts rest (g.number_form {result} {s} {word} {arg} {tests} {inner} {source_tokens = from} hb ht hs) good =
    let a = binding_again result ts (Word (codes "Number") ∷ Mark OpenParenthesis ∷ inner) hb good in
    let b = listed_again value_test_again tests inner (Word (codes "from") ∷ Word (codes "accumulate") ∷ Mark OpenParenthesis ∷ from) ht a.behind.1.1 in
    let c = source_again s from (Mark Comma ∷ Word (fold_text word) ∷ Mark OpenParenthesis ∷ Var arg ∷ Mark CloseParenthesis ∷ Mark CloseParenthesis ∷ rest) hs b.behind.1.1.1 in
    folded_as result s word arg tests rest a.stands a.is_fine b.stands b.is_fine c.stands c.is_fine c.behind.1.1.1.0 c.behind.1.1.1.1.1.1
folded_again c ts rest (g.accumulate_form {result} {s} {word} {arg} {tests} {ts = from} {behind} hs ht) good =
    let c = source_again s from (Mark Semicolon ∷ Var result ∷ Mark Colon ∷ Word (fold_text word) ∷ Mark OpenParenthesis ∷ Var arg ∷ Mark CloseParenthesis ∷ behind) hs good.1.1 in
    let b = result_tests_again result tests behind rest ht c.behind.1.1.1.1.1.1.1 in
    folded_as (Some result) s word arg tests rest (λ k. g.bound) (fine_var result (Mark Colon ∷ []) c.behind.1.0 refl) b.stands b.is_fine c.stands c.is_fine c.behind.1.1.1.1.1.0 b.behind

pub condition_again : Agains IsCondition IsCondition condition_tokens
unfolding begins_word is_word_byte
condition_again x ts rest (g.plain {s} h) good = let one = source_again s ts rest h good in record { stands = λ k. g.plain (one.stands k); is_fine = one.is_fine; behind = one.behind }
condition_again x ts rest (g.negated {s} {ts = inner} h) good = let one = group_again s inner rest h good.1 in record { stands = λ k. g.negated (one.stands k); is_fine = one.is_fine; behind = one.behind }
condition_again x ts rest (g.existing {s} {ts = inner} h) good = let one = group_again s inner rest h good.1 in record { stands = λ k. g.existing (one.stands k); is_fine = one.is_fine; behind = one.behind }
condition_again x ts rest (g.folded h) good = folded_again x ts rest h good
