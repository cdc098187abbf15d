use Rattle.desk_image.proofs.{Common.{arith}, DeskExact.{is_bad, is_found, is_only}}
use Rattle.desk_image.proofs.whole.decode_desk.Goals as goal

pub returns-clause-found : goal.returns-clause-found
returns-clause-found c = is_found c.args.bytes.now c.desk_of.result (λ i. omega (arith, c.type_inv.bytes i)) c.desk_of.ensures.found

pub returns-clause-only : goal.returns-clause-only
returns-clause-only c = is_only c.args.bytes.now c.desk_of.result c.desk_of.ensures.found

pub returns-clause-bad : goal.returns-clause-bad
returns-clause-bad c = is_bad c.args.bytes.now c.desk_of.result c.desk_of.ensures.bad
