-- What the bytes of a rule file are, by the grammar and the checks.
use Rattle.std.specs.Prelude.{◌≡◌, ℕ, ◌<◌, ◌≤◌, List, length, Some, None}
use Rattle.drl_lex.specs.declared.fault.LexCode.{LexCode}
use Rattle.drl_grammar.specs.{declared.written.Written.{Written}, Files.{IsFile, IsOutside}}
use Rattle.drl_parse.specs.Parsed.{file_limit, IsLexical}
use Rattle.drl_compile.specs.Programs.{program_of}
use Rattle.drl_check.specs.{declared.fault.CheckCode.{CheckCode}, Checks.{IsAcceptedFile, IsFirstFailure}}
use Rattle.subrules.specs.{declared.fault.ExpandCode.{ExpandCode}, Expanded.{titles}, Faults.{obstacle}}
use Rattle.replay.specs.declared.{refusal.RefusalCode.TheVariants.{TooLong, Lexical, Syntax, Expanded, Checked}, rule_file.Reading.{Reading}}
use Rattle.replay.specs.{declared.rule_file.Reading.TheVariants.{Accepted, Refused}, Refusals.{whole_file, plain_file, origin_of, obstacle_at}}
use Rattle.replay.specs.Titles.{with_titles}

-- One case holds, and no other: there are too many bytes; they are no tokens; an item is outside the grammar; they are a file of
-- which an item cannot be written out; an item of the file that it is written out to fails a check, and the item that it comes from is
-- told; that file is accepted, and its program has for each rule the name of the rule that it comes from.
pub data IsReading : List ℕ → Reading → Type 0 where
  is_too_long : {bytes : List ℕ} → file_limit < length bytes → IsReading bytes (Refused (whole_file TooLong))
  is_no_tokens : {bytes : List ℕ} {code : LexCode} {line : ℕ} → length bytes ≤ file_limit → IsLexical code line bytes
      → IsReading bytes (Refused (record { item = 0; line = line; code = Lexical code }))
  has_no_item : {bytes : List ℕ} {item line : ℕ} → length bytes ≤ file_limit → IsOutside item line bytes
      → IsReading bytes (Refused (record { item = item; line = line; code = Syntax }))
  is_not_expanded : {bytes : List ℕ} {file : Written} {number line : ℕ} {code : ExpandCode} → length bytes ≤ file_limit → IsFile file bytes
      → obstacle file.items ≡ Some (obstacle_at number line code) → IsReading bytes (Refused (record { item = number; line = line; code = Expanded code }))
  fails_a_check : {bytes : List ℕ} {file : Written} {number line : ℕ} {code : CheckCode} → length bytes ≤ file_limit → IsFile file bytes
      → obstacle file.items ≡ None → IsFirstFailure (plain_file file) number line code
      → IsReading bytes (Refused (record { item = origin_of file number; line = line; code = Checked code }))
  is_accepted : {bytes : List ℕ} {file : Written} → length bytes ≤ file_limit → IsFile file bytes → obstacle file.items ≡ None → IsAcceptedFile (plain_file file)
      → IsReading bytes (Accepted (with_titles (titles file.items) (program_of (plain_file file))))
