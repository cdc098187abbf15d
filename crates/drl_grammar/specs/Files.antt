-- How the tokens of a file are split into items, which items stand for them, and which item is refused.
use Rattle.std.specs.{Prelude.{ℕ, ◌+◌, ◌-◌, ◌^◌, ◌==◌, min, map, List, [], ◌∷◌, length, take, drop, Bool, false, not, if◌then◌else◌, codes}, List.{take_while}}
use Rattle.std.specs.{List.{filter}, Str.{bytes_eq}}
use Rattle.drl_lex.specs.{declared.token.{Token.{Token}, TokenKind.{TokenKind, TheVariants.{Word}}}, Tokens.{AreTokens}, Kinds.{kinds, starts}}
use Rattle.drl_expr.specs.Words.{is_among}
use Rattle.drl_grammar.specs.{declared.written.{Written.{Written}, WrittenItem.{WrittenItem}, WrittenBody.{WrittenBody}}, Items.{IsItem}}

-- an item that begins with one of these words ends with the word `end`
unfoldable pub opens_block : TokenKind → Bool
opens_block (Word w) = is_among (codes "declare" ∷ codes "rule" ∷ []) w
opens_block t = false

unfoldable pub begins_item : TokenKind → Bool
begins_item (Word w) = is_among (codes "package" ∷ codes "import" ∷ codes "dialect" ∷ codes "declare" ∷ codes "rule" ∷ []) w
begins_item t = false

unfoldable pub ends_block : TokenKind → Bool
ends_block (Word w) = bytes_eq w (codes "end")
ends_block t = false

-- how many tokens stand before the first that passes
abbrev pub count_before : (TokenKind → Bool) → List TokenKind → ℕ
count_before test ts = length (take_while (λ t. not (test t)) ts)

-- How many of these tokens belong to the item that begins with the token before them: those through the next word `end`, or
-- those before the next word that begins an item; all of them where there is no such word.
unfoldable pub extent : TokenKind → List TokenKind → ℕ
extent t ts = if opens_block t then min (count_before ends_block ts + 1) (length ts) else count_before begins_item ts

-- The line of an offset: one more than the newlines before it. A line beyond the range of its field is the last one that fits.
abbrev pub line_at : List ℕ → ℕ → ℕ
line_at bytes at = min (length (filter (λ b. b == 10) (take at bytes)) + 1) (2 ^ 32 - 1)

-- the lines at which tokens begin
abbrev pub lines_at : List ℕ → List Token → List ℕ
lines_at bytes tokens = map (line_at bytes) (starts tokens)

-- the items, one behind the other, each standing for all its tokens and having the line of its first one
pub data AreItems : List WrittenItem → List TokenKind → List ℕ → Type 0 where
  no_items : AreItems [] [] []
  next_item : {body : WrittenBody} {items : List WrittenItem} {t : TokenKind} {ts : List TokenKind} {line : ℕ} {lines : List ℕ} → IsItem body (t ∷ take (extent t ts) ts) []
      → AreItems items (drop (extent t ts) ts) (drop (extent t ts) lines) → AreItems (record { line = line; body = body } ∷ items) (t ∷ ts) (line ∷ lines)

-- The item of this number, counted from 1, is the first for which no tree stands, and its first token is in this line.
pub data IsItemRefused : ℕ → ℕ → List TokenKind → List ℕ → Type 0 where
  here : {t : TokenKind} {ts : List TokenKind} {line : ℕ} {lines : List ℕ} → ((body : WrittenBody) → IsItem body (t ∷ take (extent t ts) ts) [] → ⊥) → IsItemRefused 1 line (t ∷ ts) (line ∷ lines)
  later : {k refused_line : ℕ} {body : WrittenBody} {t : TokenKind} {ts : List TokenKind} {line : ℕ} {lines : List ℕ} → IsItem body (t ∷ take (extent t ts) ts) []
      → IsItemRefused k refused_line (drop (extent t ts) ts) (drop (extent t ts) lines) → IsItemRefused (k + 1) refused_line (t ∷ ts) (line ∷ lines)

-- the bytes are tokens, and the tokens are the file's items
pub record IsFile (file : Written) (bytes : List ℕ) : Type 0 where
  pub tokens : List Token
  pub spelled : AreTokens tokens bytes
  pub stand : AreItems file.items (kinds tokens) (lines_at bytes tokens)

-- the bytes are tokens, and the item of this number and line is the first that is none
pub record IsOutside (item line : ℕ) (bytes : List ℕ) : Type 0 where
  pub tokens : List Token
  pub spelled : AreTokens tokens bytes
  pub refused : IsItemRefused item line (kinds tokens) (lines_at bytes tokens)
