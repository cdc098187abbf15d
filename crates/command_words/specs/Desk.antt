-- What the words behind the own name of the program `desk` ask for.
use Rattle.std.{specs.Prelude.{ℕ, Bool, false, List, map, Option, Some, None, option_and_then, codes, string_bytes, if◌then◌else◌}, proofs.Common.{String}}
use Rattle.std.{proofs.Common.{Global}, specs.Str.{bytes_eq}}
use Rattle.clap.specs.Words.{Row, Text, first_of}
use Rattle.command_words.specs.{Asked.{IsLimit, given_or, limit_written}, Command.{desk_app, matched_by}, declared.desk.DeskAsked.{DeskAsked}}
use Rattle.command_words.specs.declared.desk.DeskWords.{DeskWords, TheVariants.{Run, Help, Version}}

-- a flag is set
abbrev pub is_set : Option Text → Bool
is_set None = false
is_set (Some value) = bytes_eq value (codes "true")

-- whether text is wanted, a limit, the name of an image and that of further rules where they are given, and that of a rule file
abbrev pub asks_desk : Bool → Option ℕ → Option Text → Option Text → Option Text → Option DeskAsked
asks_desk text (Some each) image keep (Some rules) = Some (record { rules = rules; each = each; image = image; keep = keep; text = text })
asks_desk text _ image keep _ = None

-- a live run, where one is asked for
abbrev pub runs_desk : Option DeskAsked → Option DeskWords
runs_desk None = None
runs_desk (Some asked) = Some (Run asked)

-- what the arguments ask for: help, where that is among them, else the version, else a live run
unfoldable pub desk_rows : List Row → Option DeskWords
desk_rows rows = if is_set (first_of (codes "help") rows) then Some Help
    else (if is_set (first_of (codes "version") rows) then Some Version
    else runs_desk (asks_desk (is_set (first_of (codes "text") rows)) (limit_written (given_or (codes "limit") (codes "100000") rows))
    (first_of (codes "image") rows) (first_of (codes "keep") rows) (first_of (codes "rules") rows)))

-- what words with these bytes ask for, or nothing where they are refused
unfoldable pub desk_words : List Text → Option DeskWords
desk_words words = option_and_then desk_rows (matched_by desk_app words)

-- what the words ask for
unfoldable pub desk_by : List (String Global) → Option DeskWords
desk_by words = desk_words (map string_bytes words)

-- the limit is within its bounds
abbrev pub HasLimit : DeskWords → Type 0
HasLimit (Run asked) = IsLimit asked.each
HasLimit Help = Unit {0}
HasLimit Version = Unit {0}
