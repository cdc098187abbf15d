use Rattle.change_rules.proofs.Common.{IsCountedAnew, place_in, ℕ, ◌<◌}
use Rattle.change_rules.proofs.counted.first_counted_anew.Given as goal

abbrev pub invariant-loop-ty : goal.invariant-loop-ty
invariant-loop-ty l = (k : ℕ) → k < l.ty → IsCountedAnew l.old l.new (place_in l.places) l.table k → ⊥
