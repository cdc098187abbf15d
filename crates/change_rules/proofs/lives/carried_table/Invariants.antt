use Rattle.{change_rules.proofs.Common.{drop, ◌++◌, ◌≡◌}, rule_change.specs.Changed.{carried_lives}}
use Rattle.change_rules.proofs.lives.carried_table.Given as goal

abbrev pub invariant-loop-place : goal.invariant-loop-place
invariant-loop-place l = l.lives.items ++ carried_lives l.old.types l.table (drop l.place l.types) (drop l.place l.needs) ≡ carried_lives l.old.types l.table l.types l.needs
