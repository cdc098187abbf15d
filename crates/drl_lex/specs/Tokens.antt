-- The tokens of a file, parted by blanks and comments.
use Rattle.std.specs.{Prelude.{◌≡◌, ℕ, ◌<◌, ◌≤◌, ◌+◌, ◌^◌, ◌++◌, List, [], ◌∷◌, length, Bool, true, false, Option, Some, None, codes}, List.{list_all}}
use Rattle.std.specs.Str.{is_utf8}
use Rattle.drl_lex.specs.{declared.token.{Token.{Token}, TokenKind.{TokenKind, TheVariants.{Word, Var, Number, Time, Text, Mark}}}, Bytes.{is_blank}}
use Rattle.drl_lex.specs.{Bytes.{begins_word, is_word_byte, is_run_byte, is_quote, is_line_byte, begins, IsWithout}, Times.{IsNumeral, IsTime}}
use Rattle.drl_lex.specs.{Texts.{IsContent}, Marks.{mark_text, lengthens}}

-- a text between two quotes of one kind
pub record IsText (content text : List ℕ) : Type 0 where
  pub quote : ℕ
  pub written : List ℕ
  pub quoted : text ≡ quote ∷ (written ++ quote ∷ [])
  pub is_a_quote : is_quote quote ≡ true
  pub means : IsContent quote content written
  pub utf8 : is_utf8 content ≡ true

-- the form of each kind of token
abbrev pub Spells : TokenKind → List ℕ → Type 0
Spells (Word name) text = (text ≡ name) × (begins begins_word name ≡ true) × (list_all is_word_byte name ≡ true)
Spells (Var name) text = (text ≡ codes "$" ++ name) × (0 < length name) × (list_all is_word_byte name ≡ true)
Spells (Number n) text = IsNumeral n text × (n < 2 ^ 63)
Spells (Time ms) text = IsTime ms text × (ms ≤ 2 ^ 53)
Spells (Text content) text = IsText content text
Spells (Mark mark) text = text ≡ mark_text mark

-- a byte that would make the token longer
abbrev pub longer : TokenKind → ℕ → Bool
longer (Word name) b = is_word_byte b
longer (Var name) b = is_word_byte b
longer (Number n) b = is_run_byte b
longer (Time ms) b = is_run_byte b
longer (Text content) b = false
longer (Mark mark) b = lengthens mark b

-- a comment, and the bytes behind it: from `#` or `//` to the end of the line, or from `/*` to the next `*/`
pub data IsComment : List ℕ → List ℕ → Type 0 where
  hash : {text body rest : List ℕ} → text ≡ codes "#" ++ body → list_all is_line_byte body ≡ true → begins is_line_byte rest ≡ false → IsComment text rest
  slashes : {text body rest : List ℕ} → text ≡ codes "//" ++ body → list_all is_line_byte body ≡ true → begins is_line_byte rest ≡ false → IsComment text rest
  block : {text body rest : List ℕ} → text ≡ codes "/*" ++ (body ++ codes "*/") → IsWithout (codes "*/") body → IsComment text rest

-- a blank, a comment or a token as long as possible, and the bytes behind it
pub data IsPiece : Option TokenKind → List ℕ → List ℕ → Type 0 where
  blank : {b : ℕ} {rest : List ℕ} → is_blank b ≡ true → IsPiece None (b ∷ []) rest
  comment : {text rest : List ℕ} → IsComment text rest → IsPiece None text rest
  token : {kind : TokenKind} {text rest : List ℕ} → Spells kind text → begins (longer kind) rest ≡ false → IsPiece (Some kind) text rest

-- From some bytes, the first at offset `at`, up to others, the first at offset `end`, stand these tokens with their
-- offsets and lengths, parted by blanks and comments.
pub data ReadsTokens : ℕ → List Token → List ℕ → ℕ → List ℕ → Type 0 where
  done : {at : ℕ} {rest : List ℕ} → ReadsTokens at [] rest at rest
  skip : {at end : ℕ} {tokens : List Token} {text bytes all rest : List ℕ} → all ≡ text ++ bytes → IsPiece None text bytes
      → ReadsTokens (at + length text) tokens bytes end rest → ReadsTokens at tokens all end rest
  next : {at end : ℕ} {kind : TokenKind} {tokens : List Token} {text bytes all rest : List ℕ} → all ≡ text ++ bytes → IsPiece (Some kind) text bytes
      → ReadsTokens (at + length text) tokens bytes end rest → ReadsTokens at (record { kind = kind; at = at; len = length text } ∷ tokens) all end rest

-- the bytes are these tokens
abbrev pub AreTokens : List Token → List ℕ → Type 0
AreTokens tokens bytes = ReadsTokens 0 tokens bytes (length bytes) []
