-- How tokens are written.
use Rattle.std.specs.{Prelude.{ℕ, ◌==◌, ◌++◌, List, [], ◌∷◌, if◌then◌else◌, codes}, Fmt.{decimal}}
use Rattle.drl_lex.specs.{Marks.{mark_text}, declared.token.TokenKind.{TokenKind, TheVariants.{Word, Var, Number, Time, Text, Mark}}}

-- how a byte is written between double quotes: `"` is 34, `\` is 92
unfoldable pub escape : ℕ → List ℕ
escape b = if b == 92 then codes "\\\\" else
    (if b == 34 then codes "\\\"" else
    (if b == 10 then codes "\\n" else
    (if b == 9 then codes "\\t" else
    (if b == 13 then codes "\\r" else b ∷ []))))

abbrev pub escaped : List ℕ → List ℕ
escaped [] = []
escaped (b ∷ content) = escape b ++ escaped content

unfoldable pub token_text : TokenKind → List ℕ
token_text (Word name) = name
token_text (Var name) = codes "$" ++ name
token_text (Number n) = decimal n
token_text (Time ms) = decimal ms ++ codes "ms"
token_text (Text content) = codes "\"" ++ (escaped content ++ codes "\"")
token_text (Mark mark) = mark_text mark

-- tokens, each with a space before it
abbrev pub spaced : List TokenKind → List ℕ
spaced [] = []
spaced (t ∷ ts) = codes " " ++ (token_text t ++ spaced ts)

-- tokens with one space between two
abbrev pub joined : List TokenKind → List ℕ
joined [] = []
joined (t ∷ ts) = token_text t ++ spaced ts

-- the bytes, and behind them the tokens, each with a space before it
abbrev pub added : List ℕ → List TokenKind → List ℕ
added bytes [] = bytes
added bytes (t ∷ ts) = added (bytes ++ (codes " " ++ token_text t)) ts
