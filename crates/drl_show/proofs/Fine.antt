-- Tokens that can be spelled, and tokens that may stand in the text of an item before its end.
use Rattle.drl_show.proofs.Common.{◌≡◌, ℕ, zero, suc, ◌<◌, ◌≤◌, ◌^◌, ◌&&◌, Bool, true, false, not, List, [], ◌∷◌, ◌++◌, length, refl, subst, arith, nat_lt}
use Rattle.drl_show.proofs.Common.{codes, All, list_all, bytes_eq, nat_tests, begins, begins_word, Spells, TokenKind, Word, Var, Number, Time, Text, Mark}
use Rattle.{drl_show.proofs.Common.{IsIdent, is_utf8, IsAscii, lt-ltb, CanBeSpelled}, std.proofs.lemmas.{Slice.Eq.{bytes_eq-Decides}, Str.{IsUtf8-from_ascii}}}
use Rattle.{std.proofs.lemmas.Str.{is_utf8-from_IsUtf8}, drl_lex.specs.Bytes.{is_word_byte}, drl_expr.specs.Words.{is_ident}}

pub both : (a b : Bool) → a && b ≡ true → (a ≡ true) × (b ≡ true)
both true b e = (refl, e)
both false b e = absurd cc

-- ---- what can be spelled

abbrev pub Good : TokenKind → Type 0
Good (Word w) = (begins begins_word w ≡ true) × (list_all is_word_byte w ≡ true)
Good (Var v) = (0 < length v) × (list_all is_word_byte v ≡ true)
Good (Number n) = n < 2 ^ 63
Good (Time n) = n ≤ 2 ^ 53
Good (Text s) = is_utf8 s ≡ true
Good (Mark m) = Unit {0}

abbrev pub AllGood : List TokenKind → Type 0
AllGood [] = Unit {0}
AllGood (t ∷ ts) = Good t × AllGood ts

good_from : (t : TokenKind) (text : List ℕ) → Spells t text → Good t
good_from (Word w) text h = (h.1, h.2)
good_from (Var v) text h = (h.1, h.2)
good_from (Number n) text h = h.1
good_from (Time n) text h = h.1
good_from (Text s) text h = h.utf8
good_from (Mark m) text h = tt

pub all_good : (ts : List TokenKind) → All CanBeSpelled ts → AllGood ts
all_good [] all = tt
all_good (t ∷ ts) all = (good_from t (all 0 t (omega arith)).0 (all 0 t (omega arith)).1, all_good ts (λ k d lt. all (suc k) d (omega arith)))

-- ---- what stands in the text of an item before its end

abbrev pub fine : TokenKind → Bool
fine (Word w) = (begins begins_word w && list_all is_word_byte w) && not (bytes_eq w (codes "end"))
fine (Var v) = nat_lt 0 (length v) && list_all is_word_byte v
fine (Number n) = nat_lt n (2 ^ 63)
fine (Time n) = false
fine (Text s) = is_utf8 s
fine (Mark m) = true

end_is_reserved : IsIdent (codes "end") → ⊥
unfolding is_ident
end_is_reserved h = absurd cc

not_end_by : (w : List ℕ) (b : Bool) → bytes_eq w (codes "end") ≡ b → IsIdent w → bytes_eq w (codes "end") ≡ false
not_end_by w true e h = absurd (end_is_reserved (subst IsIdent ((bytes_eq-Decides w (codes "end")).0 e) h))
not_end_by w false e h = e

pub not_end : (w : List ℕ) → IsIdent w → bytes_eq w (codes "end") ≡ false
not_end w h = not_end_by w (bytes_eq w (codes "end")) refl h

pub fine_word : (w : List ℕ) (ts : List TokenKind) → IsIdent w → Good (Word w) → list_all fine ts ≡ true → list_all fine (Word w ∷ ts) ≡ true
fine_word w ts h good more = rw (good.0, good.1, not_end w h, more) refl

pub fine_var : (v : List ℕ) (ts : List TokenKind) → Good (Var v) → list_all fine ts ≡ true → list_all fine (Var v ∷ ts) ≡ true
fine_var v ts good more = let some : nat_lt 0 (length v) ≡ true = lt-ltb 0 (length v) good.0 in rw (some, good.1, more) refl

pub fine_number : (n : ℕ) (ts : List TokenKind) → n < 2 ^ 63 → list_all fine ts ≡ true → list_all fine (Number n ∷ ts) ≡ true
fine_number n ts low more = let is : nat_lt n (2 ^ 63) ≡ true = lt-ltb n (2 ^ 63) low in rw (is, more) refl

pub fine_text : (s : List ℕ) (ts : List TokenKind) → is_utf8 s ≡ true → list_all fine ts ≡ true → list_all fine (Text s ∷ ts) ≡ true
fine_text s ts text more = rw (text, more) refl

pub fine_append : (xs ys : List TokenKind) → list_all fine xs ≡ true → list_all fine ys ≡ true → list_all fine (xs ++ ys) ≡ true
fine_append [] ys hx hy = hy
fine_append (x ∷ xs) ys hx hy = let parts = both (fine x) (list_all fine xs) hx in rw (parts.0, fine_append xs ys parts.1 hy) refl

-- ---- a word is text

word_byte_lt : (b : ℕ) → is_word_byte b ≡ true → b < 128
unfolding is_word_byte
word_byte_lt b h = grind (arith, nat_tests)

word_is_ascii : (bytes : List ℕ) → list_all is_word_byte bytes ≡ true → IsAscii bytes
word_is_ascii [] all i = omega arith
word_is_ascii (b ∷ bytes) all zero = word_byte_lt b (both (is_word_byte b) (list_all is_word_byte bytes) all).0
word_is_ascii (b ∷ bytes) all (suc i) = word_is_ascii bytes (both (is_word_byte b) (list_all is_word_byte bytes) all).1 i

pub word_is_text : (w : List ℕ) → Good (Word w) → is_utf8 w ≡ true
word_is_text w good = is_utf8-from_IsUtf8 w (IsUtf8-from_ascii w (word_is_ascii w good.1))
