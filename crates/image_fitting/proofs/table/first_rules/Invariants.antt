use Rattle.image_fitting.proofs.Tabling.{IsTableOf}
use Rattle.image_fitting.proofs.table.first_rules.Given as goal

abbrev pub invariant-loop-place : goal.invariant-loop-place
invariant-loop-place l = IsTableOf l.program l.table.items l.place
