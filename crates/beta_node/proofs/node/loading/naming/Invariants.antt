use Rattle.beta_node.proofs.Common.{◌≡◌, map, take, row_naming}
use Rattle.beta_node.proofs.node.loading.naming.Given as goal

abbrev pub invariant-loop-who : goal.invariant-loop-who
invariant-loop-who l = l.come.items ≡ map row_naming (take l.who-index l.names)
