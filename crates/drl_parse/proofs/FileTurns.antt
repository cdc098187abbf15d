-- The steps of reading a file.
use Rattle.drl_parse.proofs.Common.{◌≡◌, ℕ, ◌<◌, ◌≤◌, ◌^◌, nat_lt, true, false, List, length, Result, Ok, Err, refl, arith, ltb-false, Token, kinds, AreTokens}
use Rattle.drl_parse.proofs.Common.{tokens_again, WrittenItem, lines_at, IsFile, ItemsRead, items_at, whole_at, item_at, Parsed, is_file, outside, too_long}
use Rattle.drl_parse.proofs.Common.{lexical, items_parsed, IfOk, IfErr, IsErrAnd, lexed, GivesItems, IsParseFault, FaultOf, GivesParsed}
use Rattle.drl_lex.specs.declared.fault.LexFault.{LexFault}
use Rattle.drl_lex.specs.declared.fault.LexFault.TheVariants as lexer
use Rattle.{drl_lex.specs.Answers.{FailsLexing}, drl_grammar.specs.declared.written.Written.{Written}, drl_parse.specs.declared.fault.ParseFault.{ParseFault}}
use Rattle.drl_parse.specs.{declared.fault.ParseFault.TheVariants.{Syntax, TooLong, Lexical, NoMemory}, Parsed.{file_limit, parsed_by, parsed}}
use Rattle.drl_parse.proofs.{FileLaws.{few_tokens, same_kinds, Means, parsed_means}, ItemLaws.{Exactly}}

pub long_is : (bytes : List ℕ) → nat_lt file_limit (length bytes) ≡ true → parsed bytes ≡ too_long
unfolding parsed parsed_by
long_is bytes e = rw e refl

pub refused_is : (bytes : List ℕ) (fault : LexFault) (result : ParseFault) → nat_lt file_limit (length bytes) ≡ false → FailsLexing fault (lexed bytes) → FaultOf bytes fault result → GivesParsed (Err result) (parsed bytes)
unfolding parsed parsed_by
refused_is bytes (lexer.Refused code at) result within fails e = rw (e, within, fails) refl
refused_is bytes lexer.NoMemory result within fails e = rw e tt

-- what all the tokens are, is what the bytes are
items_are : (bytes : List ℕ) (tokens : List Token) → nat_lt file_limit (length bytes) ≡ false → AreTokens tokens bytes
    → parsed bytes ≡ items_parsed (items_at (whole_at item_at) (length (kinds tokens)) (kinds tokens) (lines_at bytes tokens))
unfolding parsed parsed_by
items_are bytes tokens within spelled = rw (within, tokens_again tokens bytes spelled) refl

given : (fault : ParseFault) (read : ItemsRead) → GivesItems (Err fault) read → GivesParsed (Err fault) (items_parsed read)
given (Syntax item line) read h = rw h refl
given TooLong read h = absurd h
given (Lexical code line) read h = absurd h
given NoMemory read h = tt

pub items_told : (bytes : List ℕ) (tokens : List Token) (fault : ParseFault) (result : Result Written ParseFault) → nat_lt file_limit (length bytes) ≡ false → AreTokens tokens bytes
    → GivesItems (Err fault) (items_at (whole_at item_at) (length (kinds tokens)) (kinds tokens) (lines_at bytes tokens)) → IsErrAnd result (λ e. e ≡ fault) → GivesParsed result (parsed bytes)
items_told bytes tokens fault (Ok file) within spelled h told = absurd told
items_told bytes tokens fault (Err e) within spelled h told = rw (told, items_are bytes tokens within spelled)
    (given fault (items_at (whole_at item_at) (length (kinds tokens)) (kinds tokens) (lines_at bytes tokens)) h)

pub items_read : (bytes : List ℕ) (tokens : List Token) (items : List WrittenItem) → nat_lt file_limit (length bytes) ≡ false → AreTokens tokens bytes
    → items_at (whole_at item_at) (length (kinds tokens)) (kinds tokens) (lines_at bytes tokens) ≡ Ok items → parsed bytes ≡ is_file (record { items = items })
items_read bytes tokens items within spelled h = rw (items_are bytes tokens within spelled, h) refl

pub few_kinds : (bytes : List ℕ) (tokens : List Token) → nat_lt file_limit (length bytes) ≡ false → AreTokens tokens bytes → length (kinds tokens) < 2 ^ 31
unfolding file_limit
few_kinds bytes tokens within spelled = omega (arith, few_tokens tokens bytes spelled, same_kinds tokens, ltb-false 1048576 (length bytes) within)

-- ---- what is given is so

means_given : (bytes : List ℕ) (read : Parsed) → parsed bytes ≡ read → Exactly (whole_at item_at) → Means read bytes
unfolding parsed
means_given bytes read e exact = rw e at (parsed_means (whole_at item_at) bytes exact)

pub file_given : (bytes : List ℕ) (result : Result Written ParseFault) → Exactly (whole_at item_at) → GivesParsed result (parsed bytes) → IfOk result (λ file. IsFile file bytes × (length bytes ≤ file_limit))
file_given bytes (Ok file) exact h = means_given bytes (is_file file) h exact
file_given bytes (Err fault) exact h = tt

pub fault_given : (bytes : List ℕ) (result : Result Written ParseFault) → Exactly (whole_at item_at) → GivesParsed result (parsed bytes) → IfErr result (λ fault. IsParseFault fault bytes)
fault_given bytes (Ok file) exact h = tt
fault_given bytes (Err (Syntax item line)) exact h = means_given bytes (outside item line) h exact
fault_given bytes (Err TooLong) exact h = means_given bytes too_long h exact
fault_given bytes (Err (Lexical code line)) exact h = means_given bytes (lexical code line) h exact
fault_given bytes (Err NoMemory) exact h = tt
