-- Rule files, as the code reads them.
use Rattle.std.specs.Prelude.{◌≡◌, ℕ, Bool, true, List, Option, Some, None}
use Rattle.desk.specs.{declared.reading.Rules.{Rules}, Wanted.{ToCome, none_come, come}}
use Rattle.replay.specs.declared.{refusal.{Refusal.{Refusal}, RefusalCode.TheVariants.{Missing}}, rule_file.Reading.TheVariants.{Accepted, Refused}}
use Rattle.replay.specs.{Checkpoints.{rules_shown}, Names.{names_read}, Refusals.{reading, whole_file}}
use Rattle.rule_model.specs.declared.program.Program.{Program}

-- of a file with these bytes: with the text of its rules, and the names of their variables, where they are wanted
pub record AreAccepted (bytes : List ℕ) (shows named : Bool) (rules : Rules) : Type 0 where
  pub program : reading bytes ≡ Accepted rules.program
  pub text : shows ≡ true → rules.text.items ≡ rules_shown bytes
  pub names : named ≡ true → rules.names ≡ names_read bytes

abbrev pub AreRefused : List ℕ → Refusal → Type 0
AreRefused bytes refusal = reading bytes ≡ Refused refusal

-- of a file that may be missing
abbrev pub AreRefusedIn : Option (List ℕ) → Refusal → Type 0
AreRefusedIn None refusal = refusal ≡ whole_file Missing
AreRefusedIn (Some bytes) refusal = AreRefused bytes refusal

abbrev pub coming_as : Option Program → ToCome
coming_as None = none_come
coming_as (Some program) = come program
