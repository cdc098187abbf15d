-- What the words behind the program's own name ask for.
use Rattle.std.specs.Prelude.{ℕ, ◌<◌, ◌≤◌, ◌^◌, ◌&&◌, Bool, List, length, map, nat_lt, nat_le, Option, Some, None, option_map, option_and_then, unwrap_or}
use Rattle.std.{specs.{Prelude.{if◌then◌else◌, codes, string_bytes}, Char.{is_ascii_digit}, List.{list_all}, Str.{bytes_eq}}, proofs.Common.{String, Global}}
use Rattle.std.specs.Str.Parse.{digits_value}
use Rattle.clap.specs.Words.{Row, Text, first_of}
use Rattle.command_words.specs.declared.asking.{Asked.{Asked, TheVariants.{RuleFile, Load}}, Mode.{Mode, TheVariants.{Run, Check, Lives, Proof, Save}}}
use Rattle.command_words.specs.Command.{matched}

-- the mode of this name
abbrev pub mode_of : Text → Option Mode
mode_of name = if bytes_eq name (codes "run") then Some Run
    else (if bytes_eq name (codes "check") then Some Check
    else (if bytes_eq name (codes "lives") then Some Lives
    else (if bytes_eq name (codes "proof") then Some Proof
    else (if bytes_eq name (codes "save") then Some Save else None))))

-- from 1 to so many decimal digits
abbrev pub is_numeral : ℕ → Text → Bool
is_numeral most text = nat_le 1 (length text) && (nat_le (length text) most && list_all is_ascii_digit text)

-- the number that the text writes in at most so many digits
unfoldable pub number_in_digits : ℕ → Text → Option ℕ
number_in_digits most text = if is_numeral most text then Some (digits_value 10 text) else None

-- a limit is from 1 to 1,000,000
abbrev pub IsLimit : ℕ → Type 0
IsLimit n = (1 ≤ n) × (n ≤ 1000000)

-- the number, where it is a limit
abbrev pub limited : ℕ → Option ℕ
limited n = if nat_le 1 n && nat_le n 1000000 then Some n else None

-- the limit that the text writes
unfoldable pub limit_written : Text → Option ℕ
limit_written text = option_and_then limited (number_in_digits 7 text)

-- the number of a load is from 0 to 2,147,483,647
abbrev pub IsLoadNumber : ℕ → Type 0
IsLoadNumber n = n < 2 ^ 31

-- the number, where it is that of a load
abbrev pub load_numbered : ℕ → Option ℕ
load_numbered n = if nat_lt n (2 ^ 31) then Some n else None

-- the number of a load that the text writes
unfoldable pub load_number_of : Text → Option ℕ
load_number_of text = option_and_then load_numbered (number_in_digits 10 text)

-- what an option was given, or its default
abbrev pub given_or : Text → Text → List Row → Text
given_or name default rows = unwrap_or (first_of name rows) default

-- the limit and the number of a load are within their bounds
abbrev pub IsWithinBounds : Asked → Type 0
IsWithinBounds (RuleFile name m n image) = IsLimit n
IsWithinBounds (Load k n) = IsLoadNumber k × IsLimit n

-- a mode, a limit and the name of a rule file
abbrev pub asks_file : Option Mode → Option ℕ → Option Text → Option Asked
asks_file (Some m) (Some n) (Some name) = Some (RuleFile name m n None)
asks_file _ _ _ = None

-- the same in the modes `run` and `save`, to go on from an image
abbrev pub asks_resumed : Option Mode → Option ℕ → Option Text → Text → Option Asked
asks_resumed (Some Run) (Some n) (Some name) image = Some (RuleFile name Run n (Some image))
asks_resumed (Some Save) (Some n) (Some name) image = Some (RuleFile name Save n (Some image))
asks_resumed _ _ _ image = None

-- the number of a load, in the mode `run` and without a rule file
abbrev pub asks_load : Option Mode → Option ℕ → Option Text → Text → Option Asked
asks_load (Some Run) (Some n) None text = option_map (λ k. Load k n) (load_number_of text)
asks_load _ _ _ text = None

-- by the number of a load and the name of an image, which exclude each other
abbrev pub asks_parts : Option Text → Option Text → Option Mode → Option ℕ → Option Text → Option Asked
asks_parts None None m n name = asks_file m n name
asks_parts None (Some image) m n name = asks_resumed m n name image
asks_parts (Some text) None m n name = asks_load m n name text
asks_parts (Some text) (Some image) m n name = None

-- what the arguments ask for
unfoldable pub asked_rows : List Row → Option Asked
asked_rows rows = asks_parts (first_of (codes "gen") rows)
    (first_of (codes "resume") rows)
    (mode_of (given_or (codes "mode") (codes "run") rows))
    (limit_written (given_or (codes "limit") (codes "100000") rows))
    (first_of (codes "rules") rows)

-- what words with these bytes ask for, or nothing where they are refused
unfoldable pub asked_words : List Text → Option Asked
asked_words words = option_and_then asked_rows (matched words)

-- what the words ask for
unfoldable pub asked_by : List (String Global) → Option Asked
asked_by words = asked_words (map string_bytes words)
