-- What a rule file is: a program, or refused.
use Rattle.std.specs.{Prelude.{ℕ, ◌-◌, ◌++◌, List, [], ◌∷◌, Option, Some, None, Result, Ok, Err, slice_index_or, codes}, Fmt.{decimal}}
use Rattle.drl_lex.specs.Faults.{lex_code_name}
use Rattle.drl_parse.specs.Parsed.{Parsed, is_file, outside, too_long, lexical, parsed}
use Rattle.drl_grammar.specs.declared.{file.File.{File}, written.Written.{Written}}
use Rattle.subrules.specs.{declared.fault.{ExpandCode.{ExpandCode}, Obstacle.{Obstacle}}, CodeNames.{expand_code_name}, Expanded.{expanded, origins, titles}}
use Rattle.subrules.specs.Faults.{obstacle}
use Rattle.drl_check.specs.{CodeNames.{check_code_name}, Answers.{within_32_bits}, Checks.{Failure}, Outcomes.{checked}}
use Rattle.rule_model.specs.declared.program.Program.{Program}
use Rattle.rule_world.specs.Programs.{IsRunnable}
use Rattle.replay.specs.{Titles.{with_titles}, declared.{refusal.{RefusalCode.{RefusalCode}, Refusal.{Refusal}}, rule_file.Reading.{Reading}}}
use Rattle.replay.specs.declared.rule_file.Reading.TheVariants.{Accepted, Refused}
use Rattle.replay.specs.declared.refusal.RefusalCode.TheVariants as code

-- the file as a whole
abbrev pub whole_file : RefusalCode → Refusal
whole_file reason = record { item = 0; line = 0; code = reason }

-- the plain file that a file is written out to
abbrev pub plain_file : Written → File
plain_file file = record { items = expanded file.items }

-- the number of the item from which an item of the plain file comes, both counted from 1
abbrev pub origin_of : Written → ℕ → ℕ
origin_of file number = slice_index_or (origins file.items) (within_32_bits number - 1) 0

abbrev pub obstacle_at : ℕ → ℕ → ExpandCode → Obstacle
obstacle_at number line reason = record { number = number; line = line; code = reason }

-- a file whose plain file passes all checks, or the first failure of that
abbrev pub of_checked : Written → Result Program Failure → Reading
of_checked file (Ok program) = Accepted (with_titles (titles file.items) program)
of_checked file (Err failure) = Refused (record { item = origin_of file failure.number; line = failure.line; code = code.Checked failure.code })

-- the same, given for each rule of the plain file the name of the rule that it comes from, and for each of its items the number of the item that it comes from
abbrev pub of_checked_with : List (List ℕ) → List ℕ → Result Program Failure → Reading
of_checked_with names origins (Ok program) = Accepted (with_titles names program)
of_checked_with names origins (Err failure) = Refused (record { item = slice_index_or origins (within_32_bits failure.number - 1) 0; line = failure.line; code = code.Checked failure.code })

-- a file that can be written out, or the first item that cannot
abbrev pub of_obstacle : Written → Option Obstacle → Reading
of_obstacle file None = of_checked file (checked (plain_file file))
of_obstacle file (Some o) = Refused (record { item = o.number; line = o.line; code = code.Expanded o.code })

-- bytes that are a file, or what is refused first
abbrev pub of_parsed : Parsed → Reading
of_parsed (is_file file) = of_obstacle file (obstacle file.items)
of_parsed (outside item line) = Refused (record { item = item; line = line; code = code.Syntax })
of_parsed too_long = Refused (whole_file code.TooLong)
of_parsed (lexical reason line) = Refused (record { item = 0; line = line; code = code.Lexical reason })

-- What the bytes of a rule file are. The same as a relation of six cases: `IsReading` in `RuleFiles.antt`, law
-- `replay::laws::a_rule_file_is_what_the_grammar_says`.
abbrev pub reading : List ℕ → Reading
reading bytes = of_parsed (parsed bytes)

-- a program is one that the engine may run
abbrev pub IsSoundReading : Reading → Type 0
IsSoundReading (Accepted program) = IsRunnable program
IsSoundReading (Refused refusal) = Unit {0}

abbrev pub IsRefusedReading : Reading → Type 0
IsRefusedReading (Accepted program) = ⊥
IsRefusedReading (Refused refusal) = Unit {0}

-- the name of a code, as the line prints it
abbrev pub refusal_code_text : RefusalCode → List ℕ
refusal_code_text code.Missing = codes "Missing"
refusal_code_text code.TooLong = codes "TooLong"
refusal_code_text code.Syntax = codes "Syntax"
refusal_code_text (code.Lexical reason) = lex_code_name reason
refusal_code_text (code.Expanded reason) = expand_code_name reason
refusal_code_text (code.Checked reason) = check_code_name reason

-- the line of a refused file
abbrev pub refusal_text : Refusal → List ℕ
refusal_text r = codes "refused item " ++ decimal r.item ++ codes " line " ++ decimal r.line ++ codes " " ++ refusal_code_text r.code ++ 10 ∷ []
