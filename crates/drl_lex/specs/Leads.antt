-- What a piece of a file begins with.
use Rattle.std.specs.{Prelude.{ℕ, Bool, ◌==◌, if◌then◌else◌}, Char.{is_ascii_digit}}
use Rattle.drl_lex.specs.declared.bytes.{Lead.{Lead, TheVariants.{Blank, Hash, Slash, Quote, Dollar, Digit, Letter, Other}}, TextByte.{TextByte}}
use Rattle.drl_lex.specs.declared.bytes.{TextByte.TheVariants.{Closing, Backslash, Newline, Plain}, Class.{Class, TheVariants.{WordBytes, RunBytes, Digits}}}
use Rattle.drl_lex.specs.{declared.bytes.Class.TheVariants.{UnitBytes, LineBytes}, Bytes.{is_blank, is_quote, begins_word, is_word_byte, is_run_byte}}
use Rattle.drl_lex.specs.Bytes.{is_unit_byte, is_line_byte}

unfoldable pub lead_of : ℕ → Lead
lead_of b = if is_blank b then Blank else
    (if b == 35 then Hash else
    (if b == 47 then Slash else
    (if is_quote b then Quote else
    (if b == 36 then Dollar else
    (if is_ascii_digit b then Digit else
    (if begins_word b then Letter else Other))))))

-- what the byte does between two quotes of this kind
unfoldable pub text_byte_of : ℕ → ℕ → TextByte
text_byte_of quote b = if b == quote then Closing else
    (if b == 92 then Backslash else
    (if b == 10 then Newline else Plain))

-- the bytes of a class
abbrev pub in_class : Class → ℕ → Bool
in_class WordBytes = is_word_byte
in_class RunBytes = is_run_byte
in_class Digits = is_ascii_digit
in_class UnitBytes = is_unit_byte
in_class LineBytes = is_line_byte
