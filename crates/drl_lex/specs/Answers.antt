-- What a function of the lexer answers, against what is read.
use Rattle.std.specs.Prelude.{◌≡◌, ℕ, List, [], ◌∷◌, Option, Some, None, Result, Ok, Err}
use Rattle.drl_lex.specs.declared.{token.{Token.{Token}, TokenKind.{TokenKind}}, fault.{LexCode.{LexCode}, LexFault.{LexFault, TheVariants.{Refused}}}}
use Rattle.drl_lex.specs.declared.fault.LexFault.TheVariants.{NoMemory}

abbrev pub FailsLexing : {Y : Type 0} → LexFault → Result Y (LexCode × ℕ) → Type 0
FailsLexing (Refused code place) read = read ≡ Err (code, place)
FailsLexing NoMemory read = Unit {0}

-- what was answered, seen by `view`, is what is read, unless memory was refused
abbrev pub GivesTokens : {X Y : Type 0} → (X → Y) → Result X LexFault → Result Y (LexCode × ℕ) → Type 0
GivesTokens view (Ok x) read = read ≡ Ok (view x)
GivesTokens view (Err fault) read = FailsLexing fault read

-- the token that a piece of so many bytes at offset `at` is, if it is one
abbrev pub kept : ℕ → ℕ → Option TokenKind → List Token
kept at len None = []
kept at len (Some kind) = record { kind = kind; at = at; len = len } ∷ []
