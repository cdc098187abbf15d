use Rattle.change_rules.{proofs.Common.{drop, ◌≡◌}, specs.AsLong.{are_lives_as_long}}
use Rattle.change_rules.proofs.as_long.is_as_long.Given as goal

abbrev pub invariant-loop-place : goal.invariant-loop-place
invariant-loop-place l = are_lives_as_long (drop l.place l.own) (drop l.place l.lives) ≡ are_lives_as_long l.own l.lives
