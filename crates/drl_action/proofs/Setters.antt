-- The name that a setter makes is text.
use Rattle.drl_action.proofs.Common.{◌≡◌, ℕ, zero, suc, ◌<◌, Bool, true, false, List, [], ◌∷◌, length, take, drop, get_or, Result, Ok, Err, refl, ap, arith}
use Rattle.drl_action.proofs.Common.{MatchResult, IsOk, nat_lt, codes, IsUtf8, IsAscii, bytes_eq, to_ascii_lowercase, bytes_eq-Decides}
use Rattle.std.proofs.lemmas.{Bool.{ltb-true, ltb-false}, Str.{IsUtf8-from_ascii, IsUtf8-append, IsUtf8-drop, IsCharBoundary-after_ascii, Ascii.{lowercase_is}}}
use Rattle.std.proofs.lemmas.Str.Ascii.{lowercase_ascii}

one_ascii : (b : ℕ) → b < 128 → IsAscii (b ∷ [])
one_ascii b low zero = low
one_ascii b low (suc i) = omega arith

small_by : (b : ℕ) (bytes : List ℕ) (low : Bool) → nat_lt b 128 ≡ low → IsUtf8 (b ∷ bytes) → IsUtf8 (to_ascii_lowercase b ∷ bytes)
small_by b bytes true e text =
    let low = ltb-true b 128 e in
    IsUtf8-append (to_ascii_lowercase b ∷ []) bytes (IsUtf8-from_ascii _ (one_ascii _ (lowercase_ascii b low)))
    (IsUtf8-drop (b ∷ bytes) 1 text (IsCharBoundary-after_ascii (b ∷ bytes) 0 text (omega arith) low))
small_by b bytes false e text = let high = ltb-false b 128 e in let same = (lowercase_is b).2 (omega arith) in rw same text

third : (x y z b : ℕ) (bytes : List ℕ) → x ∷ y ∷ z ∷ [] ≡ codes "set" → z ≡ 116
third x y z b bytes e = ap (λ (l : List ℕ). get_or l 2 0) e

-- the name made of what stands behind `set`
renamed : (word : List ℕ) → IsUtf8 word → 3 < length word → take 3 word ≡ codes "set" → IsUtf8 (to_ascii_lowercase (get_or (drop 3 word) 0 0) ∷ drop 1 (drop 3 word))
renamed (x ∷ y ∷ z ∷ b ∷ bytes) text long e =
    let is = third x y z b bytes e in
    small_by b bytes (nat_lt b 128) refl (IsUtf8-drop (x ∷ y ∷ z ∷ b ∷ bytes) 3 text (IsCharBoundary-after_ascii (x ∷ y ∷ z ∷ b ∷ bytes) 2 text (omega arith) (omega arith)))
renamed (x ∷ y ∷ z ∷ []) text long e = absurd (omega arith)
renamed (x ∷ y ∷ []) text long e = absurd (omega arith)
renamed (x ∷ []) text long e = absurd (omega arith)
renamed [] text long e = absurd (omega arith)

pub renamed_is_text : {A E : Type 0} (word name : List ℕ) (r : Result A E) (P : A → Type 0) (Q : E → Type 0) → IsUtf8 word → 3 < length word → bytes_eq (take 3 word) (codes "set") ≡ true
    → name ≡ to_ascii_lowercase (get_or (drop 3 word) 0 0) ∷ drop 1 (drop 3 word) → MatchResult r P (λ e. (IsUtf8 name → ⊥) × Q e) → IsOk r
renamed_is_text word name (Ok s) P Q text long e is h = refl
renamed_is_text word name (Err e) P Q text long is_set is h = absurd (h.0 (rw is (renamed word text long ((bytes_eq-Decides (take 3 word) (codes "set")).0 is_set))))
