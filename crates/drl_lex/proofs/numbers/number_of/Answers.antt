use Rattle.drl_lex.proofs.Capped.{digit_more}
use Rattle.drl_lex.proofs.numbers.number_of.Goals as goal

pub loop-digit-preserved : goal.loop-digit-preserved
loop-digit-preserved c =
    digit_more c.args.digits.now c.loop-digit.digit-index c.loop-digit.number c.saturating_mul.result _ c.requires c.loop-digit-test.true c.loop-digit.invariant c.saturating_mul.ensures (rw c.from.ensures at c.saturating_add-number.ensures)
