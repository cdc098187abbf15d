-- Bytes as text.
use Rattle.drl_lex.proofs.Common.{◌≡◌, ℕ, ◌<◌, zero, suc, List, [], ◌∷◌, true, false, Bool, None, Result, Ok, Err, Bor, refl, sym, arith, list_all, is_utf8}
use Rattle.drl_lex.proofs.Common.{nat_tests, MatchResult, IsOk, IsUtf8, IsAscii, IsUtf8-from_ascii, is_utf8-from_IsUtf8, IsUtf8-from_is_utf8}
use Rattle.{drl_lex.specs.{Bytes.{is_word_byte}, Texts.{utf8_text}}, std.{proofs.{lemmas.Bool.{and_parts}, Common.{option_map}}, specs.Result.{result_ok}}}

not_utf8 : (b : Bool) (bytes : List ℕ) → is_utf8 bytes ≡ b → (IsUtf8 bytes → ⊥) → utf8_text bytes ≡ None
unfolding utf8_text
not_utf8 true bytes e refused = absurd (refused (IsUtf8-from_is_utf8 bytes e))
not_utf8 false bytes e refused = rw e refl

pub text_from : {E : Type 0} (bytes : List ℕ) (r : Result (Bor (List ℕ)) E) (Q : E → Type 0) → MatchResult r (λ s. (s.now ≡ bytes) × IsUtf8 bytes) (λ e. (IsUtf8 bytes → ⊥) × Q e) → option_map (λ text. text.now) (result_ok r) ≡ utf8_text bytes
unfolding utf8_text
text_from bytes (Ok s) Q h = rw (is_utf8-from_IsUtf8 bytes h.1, h.0) refl
text_from bytes (Err e) Q h = sym (not_utf8 (is_utf8 bytes) bytes refl h.0)

word_byte_lt : (b : ℕ) → is_word_byte b ≡ true → b < 128
unfolding is_word_byte
word_byte_lt b h = grind (arith, nat_tests)

words_are_ascii : (bytes : List ℕ) → list_all is_word_byte bytes ≡ true → IsAscii bytes
words_are_ascii [] all i = omega arith
words_are_ascii (b ∷ bytes) all zero = word_byte_lt b (and_parts (is_word_byte b) (list_all is_word_byte bytes) all).0
words_are_ascii (b ∷ bytes) all (suc i) = words_are_ascii bytes (and_parts (is_word_byte b) (list_all is_word_byte bytes) all).1 i

pub word_is_text : {A E : Type 0} (bytes : List ℕ) (r : Result A E) (P : A → Type 0) (Q : E → Type 0) → list_all is_word_byte bytes ≡ true → MatchResult r P (λ e. (IsUtf8 bytes → ⊥) × Q e) → IsOk r
word_is_text bytes (Ok s) P Q all h = refl
word_is_text bytes (Err e) P Q all h = absurd (h.0 (IsUtf8-from_ascii bytes (words_are_ascii bytes all)))
