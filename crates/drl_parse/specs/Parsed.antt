-- What the bytes of a rule file are: a written file, or what is refused first.
use Rattle.std.specs.Prelude.{◌≡◌, ℕ, ◌≤◌, ◌<◌, nat_lt, List, length, Option, Result, Ok, Err, if◌then◌else◌}
use Rattle.drl_lex.specs.declared.{token.{Token.{Token}, TokenKind.{TokenKind}}, fault.{LexCode.{LexCode}, LexFault.{LexFault}}}
use Rattle.drl_lex.specs.declared.fault.LexFault.TheVariants as lex_fault
use Rattle.drl_lex.specs.Faults as lexer
use Rattle.drl_lex.specs.{Kinds.{kinds}, Reading.{lexed}}
use Rattle.drl_grammar.specs.{declared.written.{Written.{Written}, WrittenBody.{WrittenBody}}, Files.{line_at, lines_at, IsOutside}}
use Rattle.drl_parse.specs.{declared.fault.ParseFault.{ParseFault, TheVariants.{Syntax, TooLong, Lexical, NoMemory}}, Reading.{item_at}, Items.{ItemsRead}}
use Rattle.drl_parse.specs.Items.{items_at}
use Rattle.drl_phrase.specs.Reading.{whole_at}

-- the greatest number of bytes
unfoldable pub file_limit : ℕ
file_limit = 1048576

-- ---- by relations

-- the bytes are no list of tokens: the code of the first fault, and the line of the offset that it tells of
pub record IsLexical (code : LexCode) (line : ℕ) (bytes : List ℕ) : Type 0 where
  pub at : ℕ
  pub refused : lexer.IsRefused code at bytes
  pub line_is : line ≡ line_at bytes at

-- Why the bytes are no written file. Memory may be refused at any file.
abbrev pub IsParseFault : ParseFault → List ℕ → Type 0
IsParseFault (Syntax item line) bytes = IsOutside item line bytes × (length bytes ≤ file_limit)
IsParseFault TooLong bytes = file_limit < length bytes
IsParseFault (Lexical code line) bytes = IsLexical code line bytes × (length bytes ≤ file_limit)
IsParseFault NoMemory bytes = Unit {0}

-- ---- as one function of the bytes

pub data Parsed : Type 0 where
  is_file : Written → Parsed
  outside : ℕ → ℕ → Parsed
  too_long : Parsed
  lexical : LexCode → ℕ → Parsed

abbrev pub items_parsed : ItemsRead → Parsed
items_parsed (Ok items) = is_file (record { items = items })
items_parsed (Err refused) = outside refused.0 refused.1

abbrev pub tokens_parsed : (List TokenKind → Option WrittenBody) → List ℕ → Result (List Token) (LexCode × ℕ) → Parsed
tokens_parsed body_of bytes (Ok tokens) = items_parsed (items_at body_of (length (kinds tokens)) (kinds tokens) (lines_at bytes tokens))
tokens_parsed body_of bytes (Err fault) = lexical fault.0 (line_at bytes fault.1)

unfoldable pub parsed_by : (List TokenKind → Option WrittenBody) → List ℕ → Parsed
parsed_by body_of bytes = if nat_lt file_limit (length bytes) then too_long else tokens_parsed body_of bytes (lexed bytes)

-- what the bytes are, given how the grammar reads an item
unfoldable pub parsed : List ℕ → Parsed
parsed bytes = parsed_by (whole_at item_at) bytes

-- what a fault of the lexer becomes
abbrev pub FaultOf : List ℕ → LexFault → ParseFault → Type 0
FaultOf bytes (lex_fault.Refused code at) fault = fault ≡ Lexical code (line_at bytes at)
FaultOf bytes lex_fault.NoMemory fault = fault ≡ NoMemory

-- what `parse` answers: what the bytes are, unless memory was refused
abbrev pub GivesParsed : Result Written ParseFault → Parsed → Type 0
GivesParsed (Ok file) read = read ≡ is_file file
GivesParsed (Err (Syntax item line)) read = read ≡ outside item line
GivesParsed (Err TooLong) read = read ≡ too_long
GivesParsed (Err (Lexical code line)) read = read ≡ lexical code line
GivesParsed (Err NoMemory) read = Unit {0}
