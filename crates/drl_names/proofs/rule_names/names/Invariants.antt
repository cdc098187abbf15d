use Rattle.{std.{proofs.Common.{◌≡◌, ◌++◌, drop}, specs.Prelude.{map}}, drl_scope.specs.Declarations.{rules_of}, drl_names.specs.Names.{names_of_rule}}
use Rattle.drl_names.proofs.rule_names.names.Given as goal

abbrev pub invariant-loop-item : goal.invariant-loop-item
invariant-loop-item l = l.names.items ++ map names_of_rule (rules_of (drop l.item-index l.file.items)) ≡ map names_of_rule (rules_of l.file.items)
