use Rattle.change_rules.{proofs.Common.{drop, ◌++◌, ◌≡◌}, specs.Longest.{longest_lives}}
use Rattle.change_rules.proofs.longest.longest_table.Given as goal

abbrev pub invariant-loop-place : goal.invariant-loop-place
invariant-loop-place l = l.lives.items ++ longest_lives l.other.types l.needs (drop l.place l.types) (drop l.place l.owns)
    ≡ longest_lives l.other.types l.needs l.types l.owns
