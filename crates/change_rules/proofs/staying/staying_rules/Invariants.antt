use Rattle.change_rules.proofs.{Common.{length, ◌≡◌}, Finding.{AreSoFar}}
use Rattle.change_rules.proofs.staying.staying_rules.Given as goal

abbrev pub invariant-loop-rule : goal.invariant-loop-rule
invariant-loop-rule l = record { so : AreSoFar l.old l.new l.places.items; many : length l.places.items ≡ l.rule-index }
