-- What is checked: the program of an accepted file, or the first failure.
use Rattle.std.specs.Prelude.{Option, Some, None, Result, Ok, Err}
use Rattle.drl_grammar.specs.declared.file.File.{File}
use Rattle.rule_model.specs.declared.program.Program.{Program}
use Rattle.drl_compile.specs.Programs.{program_of}
use Rattle.drl_check.specs.Checks.{Failure, failure_of}

-- the program of an accepted file, or the first failure
abbrev pub checked_by : Option Failure → Program → Result Program Failure
checked_by None program = Ok program
checked_by (Some failure) program = Err failure

unfoldable pub checked : File → Result Program Failure
checked file = checked_by (failure_of file) (program_of file)
