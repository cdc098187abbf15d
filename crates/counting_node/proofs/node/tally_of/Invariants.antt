use Rattle.counting_node.proofs.Common.{take, Look, has_name, SeeAlike}
use Rattle.counting_node.proofs.node.tally_of.Given as goal

abbrev pub invariant-loop-who : goal.invariant-loop-who
invariant-loop-who g l = (world : Look) → SeeAlike (has_name l.names) (g.F.Facts.map l.facts) world → g.T.Tally.holds l.plan l.tally world (has_name (take l.who-index l.names))
