-- Quoted texts, and what their escapes stand for.
use Rattle.std.specs.{Str.{is_utf8}, Prelude.{◌≡◌, ℕ, ◌==◌, ◌||◌, List, [], ◌∷◌, Bool, true, not, Option, Some, None, if◌then◌else◌}}

-- the byte that the letter behind a `\` stands for: `"`, `'` and `\` for themselves, `n` for a newline, `t` for a tab
-- and `r` for a carriage return
unfoldable pub escaped_byte : ℕ → Option ℕ
escaped_byte letter = if letter == 34 then Some 34 else
    (if letter == 39 then Some 39 else
    (if letter == 92 then Some 92 else
    (if letter == 110 then Some 10 else
    (if letter == 116 then Some 9 else
    (if letter == 114 then Some 13 else None)))))

-- a byte that stands for itself between these quotes: no quote of the kind, no `\`, no newline
unfoldable pub is_plain : ℕ → ℕ → Bool
is_plain quote b = not (b == quote || (b == 92 || b == 10))

-- what the bytes between two quotes stand for: content, and how it is written (92 is `\`)
pub data IsContent (quote : ℕ) : List ℕ → List ℕ → Type 0 where
  nothing : IsContent quote [] []
  plain : {b : ℕ} {content written : List ℕ} → is_plain quote b ≡ true → IsContent quote content written → IsContent quote (b ∷ content) (b ∷ written)
  escape : {letter b : ℕ} {content written : List ℕ} → escaped_byte letter ≡ Some b → IsContent quote content written → IsContent quote (b ∷ content) (92 ∷ letter ∷ written)

-- the bytes as a text, where they are UTF-8
unfoldable pub utf8_text : List ℕ → Option (List ℕ)
utf8_text bytes = if is_utf8 bytes then Some bytes else None
