use Rattle.window_gate.proofs.Common.{◌≡◌, take, Named, has_version}
use Rattle.window_gate.proofs.time_window.in_order.Given as goal

abbrev pub invariant-loop-named : goal.invariant-loop-named
invariant-loop-named l = (named : Named) → has_version l.ordered.keys named ≡ has_version (take l.named-index l.named-items) named
