use Rattle.{rule_change.specs.Changed.{entry_in, moment_or_zero}, rule_model.specs.Moments.{moment_in}, image_making.proofs.Firsts.{AreFirst}}
use Rattle.image_making.proofs.moments.moved_moments.Given as goal

abbrev pub invariant-loop-entry : goal.invariant-loop-entry
invariant-loop-entry l = AreFirst (λ entry. moment_or_zero (moment_in l.moments) (entry_in l.new l.old entry)) l.entry l.moved.items
