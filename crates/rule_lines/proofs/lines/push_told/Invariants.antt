use Rattle.{std.proofs.Common.{◌++◌, ◌≡◌, take}, change_rules.specs.Told.{told_list}, rule_lines.specs.Told.{told_lines}}
use Rattle.rule_lines.proofs.lines.push_told.Given as goal

abbrev pub invariant-loop-rule : goal.invariant-loop-rule
invariant-loop-rule l = l.out.items ≡ l.fn.out.items ++ told_lines l.text (told_list (take l.rule-index l.told))
