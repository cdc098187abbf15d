use Rattle.change_rules.proofs.Common.{IsLongerAt, arith, below_more, rules, slice_get_within, ℕ}
use Rattle.change_rules.proofs.lives.first_longer.Goals as goal

pub loop-ty-preserved : goal.loop-ty-preserved
loop-ty-preserved c = below_more (λ (k : ℕ). IsLongerAt c.args.own.now c.args.kept.now k → ⊥) c.loop-ty.ty c.loop-ty.invariant (search rules)

pub returns : goal.returns
returns c = λ ty h. let within = slice_get_within c.args.kept.now ty h.2 h.3 in c.loop-ty.invariant ty (omega (arith, within)) h
