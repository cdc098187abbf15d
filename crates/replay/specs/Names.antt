-- The names of the variables in a rule file.
use Rattle.std.specs.Prelude.{ℕ, List, []}
use Rattle.drl_names.specs.{Names.{names_of}, declared.rule_names.RuleNames.{RuleNames}}
use Rattle.drl_parse.specs.Parsed.{Parsed, is_file, outside, too_long, lexical, parsed}
use Rattle.replay.specs.Refusals.{plain_file}

-- of each rule of the plain file
abbrev pub names_in : Parsed → List RuleNames
names_in (is_file file) = names_of (plain_file file)
names_in (outside item line) = []
names_in too_long = []
names_in (lexical reason line) = []

-- of a rule file with these bytes
unfoldable pub names_read : List ℕ → List RuleNames
names_read bytes = names_in (parsed bytes)
