use Rattle.temporal_ops.proofs.{Common.{refl}, Faults.{has_row}}
use Rattle.temporal_ops.proofs.op.Op.of.Goals as goal

pub returns-in-Some-clause-negative : goal.returns-in-Some-clause-negative
returns-in-Some-clause-negative c =
    (λ same. (has_row _ _ _ c.in-Some.ensures, cc, c.has_negative.ensures.0 c.if-has_negative.true), λ all. refl)
