use Rattle.desk_image.proofs.{Common.{arith}, DeskExact.{image_bad, image_found}}
use Rattle.desk_image.proofs.whole.image_of.Goals as goal

pub returns-clause-found : goal.returns-clause-found
returns-clause-found c = image_found c.args.bytes.now c.decode.result c.decode.ensures.found

pub returns-clause-bad : goal.returns-clause-bad
returns-clause-bad c = image_bad c.args.bytes.now c.decode.result (λ i. omega (arith, c.type_inv.bytes i)) c.decode.ensures.bad
