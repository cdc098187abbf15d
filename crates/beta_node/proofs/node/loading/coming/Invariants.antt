use Rattle.beta_node.proofs.Common.{◌≡◌, take}
use Rattle.beta_node.proofs.node.loading.coming.Given as goal

abbrev pub invariant-loop-row : goal.invariant-loop-row
invariant-loop-row l = l.come.items ≡ take l.row-index l.rows
