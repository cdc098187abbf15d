-- What a line of the script asks for.
use Rattle.std.specs.{Prelude.{◌≡◌, ℕ, List, Option, Some, None, Result, Ok, Err, if◌then◌else◌}, Str.{IsUtf8, is_utf8}}
use Rattle.serde_json.specs.{Data.{Data}, Read.{read}}
use Rattle.script_read.specs.{Form.{command_of}, declared.{asked.Command.{Command}, fault.CommandFault.{CommandFault, TheVariants.{BadJson, BadCommand}}}}
use Rattle.script_read.specs.declared.fault.CommandFault.TheVariants.{NoMemory}

-- The line is a text in UTF-8 that `serde_json` reads as this value.
pub record IsLineReading (line : List ℕ) (d : Data) : Type 0 where
  pub text : IsUtf8 line
  pub value : read line ≡ Some d

-- the value that a line is read as, as a test that computes
unfoldable pub reading : List ℕ → Option Data
reading line = if is_utf8 line then read line else None

-- a command, or the fault of a line that asks for none
pub data Asked : Type 0 where
  asks : Command → Asked
  bad_json : Asked
  bad_command : Asked

abbrev pub asked_of_command : Option Command → Asked
asked_of_command None = bad_command
asked_of_command (Some c) = asks c

abbrev pub asked_of_reading : Option Data → Asked
asked_of_reading None = bad_json
asked_of_reading (Some d) = asked_of_command (command_of d)

-- What a line asks for, as a function. The same as a relation: `IsLineReading` here and `IsForm` in `Form.antt`, law
-- `script_read::laws::a_line_asks_for_what_its_form_says`.
unfoldable pub asked : List ℕ → Asked
asked line = asked_of_reading (reading line)

-- an answer says what is asked, unless memory was refused
abbrev pub AnswersLine : Asked → Result Command CommandFault → Type 0
AnswersLine found (Ok c) = found ≡ asks c
AnswersLine found (Err BadJson) = found ≡ bad_json
AnswersLine found (Err BadCommand) = found ≡ bad_command
AnswersLine found (Err NoMemory) = Unit
