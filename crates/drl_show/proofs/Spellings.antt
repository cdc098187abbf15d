-- Each token of an item is spelled by its text, and no blank would make it longer.
use Rattle.drl_show.proofs.Common.{◌≡◌, ℕ, ◌<◌, ◌≤◌, ◌^◌, ◌==◌, ◌&&◌, Bool, true, false, not, cond, List, [], ◌∷◌, ◌++◌, length, refl, arith, nat_lt, codes}
use Rattle.drl_show.proofs.Common.{list_all, bytes_eq, nat_tests, begins, begins_word, Spells, longer, Assign, Comparison, TokenKind, Word, Var, Number, Time}
use Rattle.{drl_show.proofs.Common.{Text, Mark, escaped, ltb-true}, std.specs.{Char.{is_ascii_digit}, Fmt.{decimal}, Str.Parse.{AllDigits}}}
use Rattle.{std.proofs.lemmas.{Fmt.{decimal_is_IsNumeral}, Str.Parse.{digit_from_value}}, drl_lex.specs.Bytes.{is_word_byte, is_run_byte, is_quote}}
use Rattle.drl_lex.specs.Marks.{lengthens}
use Rattle.drl_lex.specs.Texts as texts
use Rattle.drl_lex.specs.{Texts.{escaped_byte, is_plain, IsContent}, Times.{IsNumeral}, declared.token.Rel.TheVariants.{Less, Greater}}
use Rattle.{drl_lex.specs.declared.token.Mark.{Mark as MarkData}, drl_show.{specs.Texts.{escape, token_text}, proofs.Fine.{fine, both}}}

-- ---- texts

escaped_is : (b : ℕ) (content written : List ℕ) → IsContent 34 content written → (backslash quote newline tab return : Bool)
    → (b == 92) ≡ backslash → (b == 34) ≡ quote → (b == 10) ≡ newline → (b == 9) ≡ tab → (b == 13) ≡ return
    → IsContent 34 (b ∷ content) (cond backslash (codes "\\\\") (cond quote (codes "\\\"") (cond newline (codes "\\n") (cond tab (codes "\\t") (cond return (codes "\\r") (b ∷ []))))) ++ written)
unfolding escaped_byte is_plain
escaped_is b content written h true q n t r eb eq en et er = let is : b ≡ 92 = grind (arith, nat_tests) in rw is (texts.escape {letter = 92} refl h)
escaped_is b content written h false true n t r eb eq en et er = let is : b ≡ 34 = grind (arith, nat_tests) in rw is (texts.escape {letter = 34} refl h)
escaped_is b content written h false false true t r eb eq en et er = let is : b ≡ 10 = grind (arith, nat_tests) in rw is (texts.escape {letter = 110} refl h)
escaped_is b content written h false false false true r eb eq en et er = let is : b ≡ 9 = grind (arith, nat_tests) in rw is (texts.escape {letter = 116} refl h)
escaped_is b content written h false false false false true eb eq en et er = let is : b ≡ 13 = grind (arith, nat_tests) in rw is (texts.escape {letter = 114} refl h)
escaped_is b content written h false false false false false eb eq en et er = texts.plain (rw (eq, eb, en) refl) h

content_is : (s : List ℕ) → IsContent 34 s (escaped s)
unfolding escape
content_is [] = texts.nothing
content_is (b ∷ s) = escaped_is b s (escaped s) (content_is s) (b == 92) (b == 34) (b == 10) (b == 9) (b == 13) refl refl refl refl refl

-- ---- numbers

digit_is : (c : ℕ) → (48 ≤ c) × (c ≤ 57) → is_ascii_digit c ≡ true
digit_is c h = let low = h.0 in let high = h.1 in grind (arith, nat_tests)

digits_are : (cs : List ℕ) → AllDigits 10 cs → list_all is_ascii_digit cs ≡ true
digits_are [] all = refl
digits_are (c ∷ cs) all = rw (digit_is c (digit_from_value c all.0), digits_are cs all.1) refl

decimal_is : (n : ℕ) → n < 2 ^ 63 → IsNumeral n (decimal n)
decimal_is n low = let is = decimal_is_IsNumeral n (omega arith) in record { some = is.0.0; digits = digits_are (decimal n) is.0.1; value = is.1 }

-- ---- tokens

pub spelled : (t : TokenKind) → fine t ≡ true → Spells t (token_text t)
unfolding token_text is_quote
spelled (Word w) h = let one = both (begins begins_word w && list_all is_word_byte w) (not (bytes_eq w (codes "end"))) h in let two = both (begins begins_word w) (list_all is_word_byte w) one.0 in (refl, two.0, two.1)
spelled (Var v) h = let two = both (nat_lt 0 (length v)) (list_all is_word_byte v) h in (refl, ltb-true 0 (length v) two.0, two.1)
spelled (Number n) h = let low = ltb-true n (2 ^ 63) h in (decimal_is n low, low)
spelled (Time n) h = absurd cc
spelled (Text s) h = record { quote = 34; written = escaped s; quoted = refl; is_a_quote = refl; means = content_is s; utf8 = h }
spelled (Mark m) h = refl

lengthens_not : (m : MarkData) (b : ℕ) → (b == 61) ≡ false → lengthens m b ≡ false
lengthens_not Assign b h = h
lengthens_not (Comparison Less) b h = h
lengthens_not (Comparison Greater) b h = h
lengthens_not m b h = refl

-- a space and a newline end every token
pub ended_by_space : (t : TokenKind) → longer t 32 ≡ false
unfolding is_word_byte is_run_byte
ended_by_space (Word w) = refl
ended_by_space (Var v) = refl
ended_by_space (Number n) = refl
ended_by_space (Time n) = refl
ended_by_space (Text s) = refl
ended_by_space (Mark m) = lengthens_not m 32 refl

pub ended_by_newline : (t : TokenKind) → longer t 10 ≡ false
unfolding is_word_byte is_run_byte
ended_by_newline (Word w) = refl
ended_by_newline (Var v) = refl
ended_by_newline (Number n) = refl
ended_by_newline (Time n) = refl
ended_by_newline (Text s) = refl
ended_by_newline (Mark m) = lengthens_not m 10 refl

-- tokens, each spelled by its text
abbrev pub AllSpelled : List TokenKind → Type 0
AllSpelled [] = Unit {0}
AllSpelled (t ∷ ts) = Spells t (token_text t) × AllSpelled ts

pub fine_spelled : (ts : List TokenKind) → list_all fine ts ≡ true → AllSpelled ts
fine_spelled [] h = tt
fine_spelled (t ∷ ts) h = let parts = both (fine t) (list_all fine ts) h in (spelled t parts.0, fine_spelled ts parts.1)

pub spelled_append : (xs ys : List TokenKind) → AllSpelled xs → AllSpelled ys → AllSpelled (xs ++ ys)
spelled_append [] ys hx hy = hy
spelled_append (x ∷ xs) ys hx hy = (hx.0, spelled_append xs ys hx.1 hy)
