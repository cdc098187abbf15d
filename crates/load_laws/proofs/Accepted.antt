-- The rule file of a load is accepted: its reading is computed.
use Rattle.{std.proofs.Common.{◌≡◌, Option, Some, None, Result, Ok, Err, refl}, gen_load.specs.Rules.{rules_text}, drl_grammar.specs.declared.file.File.{File}}
use Rattle.{drl_grammar.specs.declared.written.Written.{Written}, subrules.specs.{declared.fault.Obstacle.{Obstacle}, Expanded.{expanded}, Faults.{obstacle}}}
use Rattle.{drl_parse.specs.Parsed.{Parsed, is_file, outside, too_long, lexical, parsed}, drl_check.specs.{Checks.{Failure}, Outcomes.{checked}}}
use Rattle.{rule_model.specs.declared.program.Program.{Program}, load_laws.proofs.Computing.{reading}}

abbrev Passes : Result Program Failure → Type 0
Passes (Ok program) = Unit {0}
Passes (Err failure) = ⊥

abbrev IsFree : Option Obstacle → Type 0
IsFree None = Unit {0}
IsFree (Some o) = ⊥

abbrev pub plain_file : Written → File
plain_file file = record { items = expanded file.items }

-- the bytes are a file that can be written out to one that passes all checks
abbrev IsAccepted : Parsed → Type 0
IsAccepted (is_file file) = IsFree (obstacle file.items) × Passes (checked (plain_file file))
IsAccepted (outside item line) = ⊥
IsAccepted too_long = ⊥
IsAccepted (lexical code line) = ⊥

computed : IsAccepted (parsed rules_text)
unfolding reading
computed = (tt, tt)

program_of : (found : Result Program Failure) → Passes found → (program : Program) × (found ≡ Ok program)
program_of (Ok program) passes = (program, refl)
program_of (Err failure) passes = elim passes [ ]

free_of : (found : Option Obstacle) → IsFree found → found ≡ None
free_of None free = refl
free_of (Some o) free = elim free [ ]

-- what the rule file of a load is
abbrev pub Accepts : Parsed → Type 0
Accepts found = (file : Written) × (program : Program) × (found ≡ is_file file) × (obstacle file.items ≡ None) × (checked (plain_file file) ≡ Ok program)

file_of : (found : Parsed) → IsAccepted found → Accepts found
file_of (is_file file) is = let passing = program_of (checked (plain_file file)) is.1 in (file, passing.0, refl, free_of (obstacle file.items) is.0, passing.1)
file_of (outside item line) is = elim is [ ]
file_of too_long is = elim is [ ]
file_of (lexical code line) is = elim is [ ]

pub accepted : Accepts (parsed rules_text)
accepted = file_of (parsed rules_text) computed
