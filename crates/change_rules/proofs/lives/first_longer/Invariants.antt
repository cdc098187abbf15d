use Rattle.change_rules.proofs.Common.{IsLongerAt, ℕ, ◌<◌}
use Rattle.change_rules.proofs.lives.first_longer.Given as goal

abbrev pub invariant-loop-ty : goal.invariant-loop-ty
invariant-loop-ty l = (k : ℕ) → k < l.ty → IsLongerAt l.own l.kept k → ⊥
