-- Where a file is no list of tokens: the fault that stands first.
use Rattle.std.specs.{Prelude.{◌≡◌, ℕ, ◌<◌, ◌≤◌, ◌+◌, ◌^◌, ◌++◌, List, ◌∷◌, length, true, false, is_some, codes}, List.{list_all}, Char.{is_ascii_digit}}
use Rattle.std.specs.Str.{is_utf8}
use Rattle.drl_lex.specs.declared.{token.{Token.{Token}, TokenKind.{TokenKind}}, fault.LexCode.{LexCode, TheVariants.{BadChar, OpenText, OpenComment}}}
use Rattle.drl_lex.specs.{declared.fault.{LexCode.TheVariants.{NumberLarge}, LexFault.{LexFault, TheVariants.{Refused, NoMemory}}}, Bytes.{is_blank}}
use Rattle.drl_lex.specs.{Bytes.{is_run_byte, is_quote, is_line_byte, begins, IsWithout}, Times.{IsNumeral, IsTime}, Texts.{escaped_byte, IsContent}}
use Rattle.drl_lex.specs.Tokens.{Spells, ReadsTokens}

-- no token stands at the front of the bytes, and their first byte is no blank and begins no comment, no text
-- and no run
pub record BeginsNothing (bytes : List ℕ) : Type 0 where
  pub some : 0 < length bytes
  pub no_blank : begins is_blank bytes ≡ false
  pub no_hash : (rest : List ℕ) → bytes ≡ codes "#" ++ rest → ⊥
  pub no_slashes : (rest : List ℕ) → bytes ≡ codes "//" ++ rest → ⊥
  pub no_block : (rest : List ℕ) → bytes ≡ codes "/*" ++ rest → ⊥
  pub no_text : begins is_quote bytes ≡ false
  pub no_run : begins is_ascii_digit bytes ≡ false
  pub no_token : (kind : TokenKind) (text rest : List ℕ) → bytes ≡ text ++ rest → Spells kind text → ⊥

-- a run that begins with a digit, as long as possible, at the front of the bytes
pub record IsDigitRun (run bytes : List ℕ) : Type 0 where
  pub rest : List ℕ
  pub parts : bytes ≡ run ++ rest
  pub begin : begins is_ascii_digit run ≡ true
  pub all : list_all is_run_byte run ≡ true
  pub stop : begins is_run_byte rest ≡ false

-- an opened text at the front of the bytes: its content so far, how that is written, and the bytes behind
pub record IsOpened (quote : ℕ) (content written rest bytes : List ℕ) : Type 0 where
  pub opened : bytes ≡ quote ∷ (written ++ rest)
  pub is_a_quote : is_quote quote ≡ true
  pub means : IsContent quote content written

-- A fault of what begins with the bytes, the first of which stands at offset `at`, and the offset that is told. In a
-- text what stands before the fault is read without one, so faults are met from left to right; that the content is
-- no UTF-8 comes last.
pub data IsLexFault (at : ℕ) : LexCode → ℕ → List ℕ → Type 0 where
  no_token : {bytes : List ℕ} → BeginsNothing bytes → IsLexFault at BadChar at bytes
  no_number : {run bytes : List ℕ} → IsDigitRun run bytes → ((n : ℕ) → IsNumeral n run → ⊥) → ((ms : ℕ) → IsTime ms run → ⊥) → IsLexFault at BadChar at bytes
  large_number : {n : ℕ} {run bytes : List ℕ} → IsDigitRun run bytes → IsNumeral n run → 2 ^ 63 ≤ n → IsLexFault at NumberLarge at bytes
  large_time : {ms : ℕ} {run bytes : List ℕ} → IsDigitRun run bytes → IsTime ms run → 2 ^ 53 < ms → IsLexFault at NumberLarge at bytes
  open_comment : {body bytes : List ℕ} → bytes ≡ codes "/*" ++ body → IsWithout (codes "*/") body → IsLexFault at OpenComment at bytes
  bad_escape : {quote : ℕ} {content written rest bytes : List ℕ} → IsOpened quote content written (92 ∷ rest) bytes
      → begins (λ letter. is_some (escaped_byte letter)) rest ≡ false → IsLexFault at BadChar (at + (1 + length written)) bytes
  open_text : {quote : ℕ} {content written rest bytes : List ℕ} → IsOpened quote content written rest bytes
      → begins is_line_byte rest ≡ false → IsLexFault at OpenText at bytes
  no_utf8 : {quote : ℕ} {content written rest bytes : List ℕ} → IsOpened quote content written (quote ∷ rest) bytes
      → is_utf8 content ≡ false → IsLexFault at BadChar at bytes

-- Tokens stand up to some byte, and there is this fault.
pub record IsRefused (code : LexCode) (place : ℕ) (bytes : List ℕ) : Type 0 where
  pub tokens : List Token
  pub at : ℕ
  pub rest : List ℕ
  pub before : ReadsTokens 0 tokens bytes at rest
  pub fault : IsLexFault at code place rest

-- the fault that stands first; memory may be refused at any file
abbrev pub IsFirstFault : LexFault → List ℕ → Type 0
IsFirstFault (Refused code place) bytes = IsRefused code place bytes
IsFirstFault NoMemory bytes = Unit {0}

-- the name of a code, as a refusal shows it
abbrev pub lex_code_name : LexCode → List ℕ
lex_code_name BadChar = codes "BadChar"
lex_code_name OpenText = codes "OpenText"
lex_code_name OpenComment = codes "OpenComment"
lex_code_name NumberLarge = codes "NumberLarge"
