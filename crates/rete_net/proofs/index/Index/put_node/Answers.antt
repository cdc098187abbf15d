use Rattle.rete_net.proofs.Common.{type_of}
use Rattle.rete_net.proofs.index.Index.put_node.Goals as goal

pub returns-clause-kept : goal.returns-clause-kept
returns-clause-kept c k n was = record { typed = c.in_ok-put.ensures.kept (type_of n) k was.typed; asked = λ f meant. c.in_ok-put-2.ensures.kept f k (was.asked f meant) }
