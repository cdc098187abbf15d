use Rattle.drl_show.proofs.Common.{◌≡◌, drop, each, added}
use Rattle.drl_show.proofs.shapes.write_each.Given as goal

abbrev pub invariant-loop-item : goal.invariant-loop-item
invariant-loop-item g l = added l.out.items (each g.T.Printed.tokens (drop l.item-index l.items)) ≡ added l.fn.out.items (each g.T.Printed.tokens l.items)
