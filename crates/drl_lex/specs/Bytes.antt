-- Classes of bytes, and fronts of lists of bytes.
use Rattle.std.specs.{Prelude.{◌≡◌, ℕ, ◌==◌, ◌||◌, ◌++◌, List, [], ◌∷◌, Bool, false, not, count_by, ◌+◌, take}, Char.{is_ascii_alphabetic}}
use Rattle.std.specs.Char.{is_ascii_alphanumeric, is_ascii_digit}

-- space, tab, carriage return, newline
unfoldable pub is_blank : ℕ → Bool
is_blank b = b == 32 || (b == 9 || (b == 13 || b == 10))

-- a letter or `_`
unfoldable pub begins_word : ℕ → Bool
begins_word b = is_ascii_alphabetic b || b == 95

-- a letter, a digit or `_`
unfoldable pub is_word_byte : ℕ → Bool
is_word_byte b = is_ascii_alphanumeric b || b == 95

-- what a run that begins with a digit takes: a letter, a digit, `_` or `$`
unfoldable pub is_run_byte : ℕ → Bool
is_run_byte b = is_word_byte b || b == 36

-- what stands behind the digits of a part of a run: every byte but a digit
unfoldable pub is_unit_byte : ℕ → Bool
is_unit_byte b = not (is_ascii_digit b)

-- `"` or `'`
unfoldable pub is_quote : ℕ → Bool
is_quote b = b == 34 || b == 39

-- every byte but a newline
unfoldable pub is_line_byte : ℕ → Bool
is_line_byte b = not (b == 10)

-- whether the first byte passes the test
abbrev pub begins : (ℕ → Bool) → List ℕ → Bool
begins test [] = false
begins test (b ∷ bytes) = test b

-- the mark stands nowhere in the bytes
abbrev pub IsWithout : List ℕ → List ℕ → Type 0
IsWithout mark bytes = (front back : List ℕ) → bytes ≡ front ++ (mark ++ back) → ⊥

-- the line of the byte at an offset: lines count from 1, and a newline ends one
abbrev pub line_of : ℕ → List ℕ → ℕ
line_of at bytes = 1 + count_by (λ b. b == 10) (take at bytes)
