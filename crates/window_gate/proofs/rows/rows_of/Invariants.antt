use Rattle.window_gate.proofs.Common.{◌≡◌, take, map, single}
use Rattle.window_gate.proofs.rows.rows_of.Given as goal

abbrev pub invariant-loop-named : goal.invariant-loop-named
invariant-loop-named l = l.rows.items ≡ map single (take l.named-index l.versions)
