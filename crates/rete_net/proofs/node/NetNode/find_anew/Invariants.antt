use Rattle.rete_net.{proofs.Common.{[], take}, specs.Lending.{IsFoundAnew}}
use Rattle.rete_net.proofs.node.NetNode.find_anew.Given as goal

abbrev pub invariant-loop-row : goal.invariant-loop-row
invariant-loop-row g l = IsFoundAnew l.self.node (g.F.Facts.map l.facts) l.place [] l.fn.source l.source

abbrev pub invariant-loop-row-2 : goal.invariant-loop-row-2
invariant-loop-row-2 g l = IsFoundAnew l.self.node (g.F.Facts.map l.facts) l.place (take l.row-index l.came) l.fn.source l.source
