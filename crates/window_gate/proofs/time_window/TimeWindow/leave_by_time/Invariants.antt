use Rattle.window_gate.proofs.{Common.{◌≡◌, ℕ, true, length, list_any, has_tag, HeldArrivals, HoldsArrivals, has_time_come, Leave}, Holding.{tagged}}
use Rattle.window_gate.proofs.time_window.TimeWindow.leave_by_time.Given as goal

abbrev pub invariant-due : goal.invariant-due
invariant-due l = record {
  leave : Leave l.initial.self l.self (tagged l.left.items) l.left.items;
  due : (held : HeldArrivals) → HoldsArrivals l.initial.self held → (tag : ℕ) → list_any (has_tag tag) l.left.items ≡ true → has_time_come l.initial.self.millis l.now (held tag) ≡ true;
}

abbrev pub decreases-due : goal.decreases-due
decreases-due l = length l.self.leaving
