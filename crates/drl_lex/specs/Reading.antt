-- Reading from the left. Each function gives what stands at the front and the bytes behind it, or a fault and its
-- offset; `at` is the offset of the first byte.
use Rattle.std.specs.Prelude.{ℕ, zero, suc, ◌+◌, ◌-◌, ◌^◌, ◌==◌, List, [], ◌∷◌, length, Option, Some, None, Result, Ok, Err, nat_lt, nat_le, if◌then◌else◌}
use Rattle.std.specs.{Char.{is_ascii_digit}, Str.Parse.{digits_value}}
use Rattle.drl_lex.specs.declared.token.{Token.{Token}, TokenKind.{TokenKind, TheVariants.{Word, Var, Number, Time, Text, Mark}}, Mark.{Mark as MarkData}}
use Rattle.drl_lex.specs.declared.{fault.LexCode.{LexCode, TheVariants.{BadChar, OpenText, OpenComment, NumberLarge}}, bytes.Lead.{Lead, TheVariants.{Blank}}}
use Rattle.drl_lex.specs.declared.bytes.{Lead.TheVariants.{Hash, Slash, Quote, Dollar, Digit, Letter, Other}, TextByte.{TextByte, TheVariants.{Closing}}}
use Rattle.drl_lex.specs.{declared.bytes.TextByte.TheVariants.{Backslash, Newline, Plain}, Bytes.{is_word_byte, is_run_byte, is_line_byte}, Fronts.{longest}}
use Rattle.drl_lex.specs.{Fronts.{behind_close}, Leads.{lead_of, text_byte_of}, MarkReading.{mark_at}, Texts.{escaped_byte, utf8_text}}
use Rattle.drl_lex.specs.TimeReading.{is_empty_text, time_of}

abbrev pub ReadToken : Type 0 → Type 0
ReadToken A = Result (A × List ℕ) (LexCode × ℕ)

-- ---- comments

abbrev pub behind_block : ℕ → Option (List ℕ) → Result (List ℕ) (LexCode × ℕ)
behind_block at (Some rest) = Ok rest
behind_block at None = Err (OpenComment, at)

-- the bytes behind the comment that a slash before these bytes begins
unfoldable pub slash_at : ℕ → List ℕ → Result (List ℕ) (LexCode × ℕ)
slash_at at [] = Err (BadChar, at)
slash_at at (b ∷ bytes) = if b == 47 then Ok (longest is_line_byte bytes).1 else
    (if b == 42 then behind_block at (behind_close bytes) else Err (BadChar, at))

-- ---- runs that begin with a digit

abbrev pub number_kind : ℕ → ℕ → Result TokenKind (LexCode × ℕ)
number_kind at n = if nat_lt n (2 ^ 63) then Ok (Number n) else Err (NumberLarge, at)

abbrev pub time_kind : ℕ → Option ℕ → Result TokenKind (LexCode × ℕ)
time_kind at None = Err (BadChar, at)
time_kind at (Some ms) = if nat_le ms (2 ^ 53) then Ok (Time ms) else Err (NumberLarge, at)

unfoldable pub run_kind : ℕ → List ℕ → Result TokenKind (LexCode × ℕ)
run_kind at run = if is_empty_text (longest is_ascii_digit run).1 then number_kind at (digits_value 10 (longest is_ascii_digit run).0) else time_kind at (time_of run)

abbrev pub with_rest : List ℕ → Result TokenKind (LexCode × ℕ) → ReadToken TokenKind
with_rest rest (Ok kind) = Ok (kind, rest)
with_rest rest (Err fault) = Err fault

unfoldable pub run_at : ℕ → List ℕ → ReadToken TokenKind
run_at at bytes = with_rest (longest is_run_byte bytes).1 (run_kind at (longest is_run_byte bytes).0)

-- ---- words and variables

unfoldable pub word_at : List ℕ → ReadToken TokenKind
word_at bytes = Ok (Word (longest is_word_byte bytes).0, (longest is_word_byte bytes).1)

abbrev pub var_step : ℕ → List ℕ → List ℕ → ReadToken TokenKind
var_step at [] rest = Err (BadChar, at)
var_step at (b ∷ name) rest = Ok (Var (b ∷ name), rest)

-- the variable whose name begins with these bytes
unfoldable pub var_at : ℕ → List ℕ → ReadToken TokenKind
var_at at bytes = var_step at (longest is_word_byte bytes).0 (longest is_word_byte bytes).1

-- ---- texts

abbrev pub with_byte : ℕ → ReadToken (List ℕ) → ReadToken (List ℕ)
with_byte b (Ok read) = Ok (b ∷ read.0, read.1)
with_byte b (Err fault) = Err fault

abbrev pub escape_step : ℕ → Option ℕ → ReadToken (List ℕ) → ReadToken (List ℕ)
escape_step place (Some b) more = with_byte b more
escape_step place None more = Err (BadChar, place)

abbrev pub content_end : ℕ → ℕ → TextByte → ReadToken (List ℕ)
content_end at place Closing = Ok ([], [])
content_end at place Backslash = Err (BadChar, place)
content_end at place Newline = Err (OpenText, at)
content_end at place Plain = Err (OpenText, at)

abbrev pub content_step : ℕ → ℕ → TextByte → ℕ → ℕ → List ℕ → ReadToken (List ℕ) → ReadToken (List ℕ) → ReadToken (List ℕ)
content_step at place Closing b c bytes behind_one behind_two = Ok ([], c ∷ bytes)
content_step at place Backslash b c bytes behind_one behind_two = escape_step place (escaped_byte c) behind_two
content_step at place Newline b c bytes behind_one behind_two = Err (OpenText, at)
content_step at place Plain b c bytes behind_one behind_two = with_byte b behind_one

-- what stands before the closing quote; the bytes begin at offset `place`, and the opening quote stands at `at`
unfoldable pub content_at : ℕ → ℕ → ℕ → List ℕ → ReadToken (List ℕ)
content_at at quote place [] = Err (OpenText, at)
content_at at quote place (b ∷ []) = content_end at place (text_byte_of quote b)
content_at at quote place (b ∷ c ∷ bytes) = content_step at place (text_byte_of quote b) b c bytes (content_at at quote (place + 1) (c ∷ bytes)) (content_at at quote (place + 2) bytes)

abbrev pub text_read : ℕ → Option (List ℕ) → List ℕ → ReadToken TokenKind
text_read at (Some content) rest = Ok (Text content, rest)
text_read at None rest = Err (BadChar, at)

abbrev pub text_step : ℕ → ReadToken (List ℕ) → ReadToken TokenKind
text_step at (Ok read) = text_read at (utf8_text read.0) read.1
text_step at (Err fault) = Err fault

-- the text that the quote opens before these bytes
unfoldable pub text_at : ℕ → ℕ → List ℕ → ReadToken TokenKind
text_at at quote bytes = text_step at (content_at at quote (at + 1) bytes)

-- ---- pieces

abbrev pub mark_read : ℕ → Option (MarkData × List ℕ) → ReadToken (Option TokenKind)
mark_read at (Some read) = Ok (Some (Mark read.0), read.1)
mark_read at None = Err (BadChar, at)

abbrev pub comment_read : Result (List ℕ) (LexCode × ℕ) → ReadToken (Option TokenKind)
comment_read (Ok rest) = Ok (None, rest)
comment_read (Err fault) = Err fault

abbrev pub token_read : ReadToken TokenKind → ReadToken (Option TokenKind)
token_read (Ok read) = Ok (Some read.0, read.1)
token_read (Err fault) = Err fault

unfoldable pub piece_of : Lead → ℕ → ℕ → List ℕ → ReadToken (Option TokenKind)
piece_of Blank at b bytes = Ok (None, bytes)
piece_of Hash at b bytes = Ok (None, (longest is_line_byte bytes).1)
piece_of Slash at b bytes = comment_read (slash_at at bytes)
piece_of Quote at b bytes = token_read (text_at at b bytes)
piece_of Dollar at b bytes = token_read (var_at at bytes)
piece_of Digit at b bytes = token_read (run_at at (b ∷ bytes))
piece_of Letter at b bytes = token_read (word_at (b ∷ bytes))
piece_of Other at b bytes = mark_read at (mark_at b bytes)

-- the token at the front, or none where a blank or a comment stands there
unfoldable pub piece_at : ℕ → List ℕ → ReadToken (Option TokenKind)
piece_at at [] = Err (BadChar, at)
piece_at at (b ∷ bytes) = piece_of (lead_of b) at b bytes

-- ---- files

abbrev pub with_token : Token → Result (List Token) (LexCode × ℕ) → Result (List Token) (LexCode × ℕ)
with_token token (Ok tokens) = Ok (token ∷ tokens)
with_token token (Err fault) = Err fault

abbrev pub behind_piece : ℕ → ℕ → Option TokenKind → Result (List Token) (LexCode × ℕ) → Result (List Token) (LexCode × ℕ)
behind_piece at len None more = more
behind_piece at len (Some kind) more = with_token (record { kind = kind; at = at; len = len }) more

abbrev pub lexed_step : ℕ → ℕ → ReadToken (Option TokenKind) → (ℕ → List ℕ → Result (List Token) (LexCode × ℕ)) → Result (List Token) (LexCode × ℕ)
lexed_step at len (Ok read) more = behind_piece at (len - length read.1) read.0 (more (at + (len - length read.1)) read.1)
lexed_step at len (Err fault) more = Err fault

-- The first number bounds the turns; the count of the bytes is always enough.
unfoldable pub lexed_from : ℕ → ℕ → List ℕ → Result (List Token) (LexCode × ℕ)
lexed_from n at [] = Ok []
lexed_from zero at (b ∷ bytes) = Ok []
lexed_from (suc n) at (b ∷ bytes) = lexed_step at (length (b ∷ bytes)) (piece_at at (b ∷ bytes)) (lexed_from n)

-- the tokens of a file, or its first fault and the fault's offset
unfoldable pub lexed : List ℕ → Result (List Token) (LexCode × ℕ)
lexed bytes = lexed_from (length bytes) 0 bytes
