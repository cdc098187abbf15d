use Rattle.window_gate.proofs.{Common.{sym, subst, to_z-of_z, has_time_come, Leave}, Holding.{one_more_left, one_more_due, all_due_left}}
use Rattle.window_gate.proofs.time_window.TimeWindow.leave_by_time.Goals as goal

pub due-preserved : goal.due-preserved
due-preserved c =
    let time = c.ranges.now in
    let due = simp to_z-of_z at c.due.invariant.due in
    let one = c.in-Some.ensures in
    let named = c.in-Some.named in
    simp (to_z-of_z, c.in_ok-push.ensures.items) (record {
      leave = one_more_left c.args.now c.args.self.now c.due.self c.due.left.items c.due.invariant.leave due c.take_due.new.self named one.leave;
      due = one_more_due c.args.now c.args.self.now c.due.self c.due.left.items c.due.invariant.leave due c.take_due.new.self named one.leave (simp to_z-of_z at one.due);
    })

pub returns : goal.returns
returns c =
    let time = c.ranges.now in
    let none = c.in_default.ensures in
    subst (λ w. Leave c.args.self.now w (λ _ one. has_time_come c.args.self.now.millis c.args.now one) c.due.left.items) (sym none.unchanged)
    (all_due_left c.args.now c.args.self.now c.due.self c.due.left.items c.due.invariant.leave (simp to_z-of_z at c.due.invariant.due) (simp to_z-of_z at none.none))
