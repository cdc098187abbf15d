use Rattle.checkpoint.proofs.{Common.{arith}, ListsExact.{each_octet}}
use Rattle.checkpoint.proofs.lists.put_string.Goals as goal

pub returns-clause-fits : goal.returns-clause-fits
returns-clause-fits c = (omega arith, each_octet c.args.string.now (λ i. omega (arith, c.type_inv.string i)))
