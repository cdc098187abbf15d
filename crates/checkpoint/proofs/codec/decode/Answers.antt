use Rattle.checkpoint.proofs.{Common.{arith}, Whole.{is_found, is_only, is_bad}}
use Rattle.checkpoint.proofs.codec.decode.Goals as goal

pub returns-clause-found : goal.returns-clause-found
returns-clause-found c = is_found c.args.bytes.now c.image_of.result (λ i. omega (arith, c.type_inv.bytes i)) c.image_of.ensures.found

pub returns-clause-only : goal.returns-clause-only
returns-clause-only c = is_only c.args.bytes.now c.image_of.result c.image_of.ensures.found

pub returns-clause-bad : goal.returns-clause-bad
returns-clause-bad c = is_bad c.args.bytes.now c.image_of.result c.image_of.ensures.bad
