-- What is told of rules, as code has it: one behind the other, the same once.
use Rattle.std.specs.{Prelude.{◌++◌, Bool, List, [], ◌∷◌, map, if◌then◌else◌}, List.{list_any}}
use Rattle.rule_change.specs.Told.{ToldRule, is_same_told}
use Rattle.change_rules.specs.declared.told.ToldRule.{ToldRule as Told}

abbrev pub told_rule : Told → ToldRule
told_rule told = (told.name, told.status)

abbrev pub told_list : List Told → List ToldRule
told_list told = map told_rule told

abbrev pub was_told : List ToldRule → ToldRule → Bool
was_told done told = list_any (is_same_told told) done

-- this told behind the others, where it was not
abbrev pub with_told : List ToldRule → ToldRule → List ToldRule
with_told done told = if was_told done told then done else (done ++ told ∷ [])

abbrev pub all_told : List ToldRule → List ToldRule → List ToldRule
all_told done [] = done
all_told done (told ∷ more) = all_told (with_told done told) more
