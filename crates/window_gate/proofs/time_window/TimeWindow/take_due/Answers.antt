use Rattle.window_gate.proofs.{Common.{◌∙◌, sym, ap, refl, not, int_cmp, to_z-of_z, Included, is_due}, Holding.{due_come, leave_one}}
use Rattle.window_gate.proofs.time_window.TimeWindow.take_due.Goals as goal

pub returns-in_err-tag-clause-none : goal.returns-in_err-tag-clause-none
returns-in_err-tag-clause-none c =
    let time = c.ranges.now in
    rw c.from_residual.ensures (λ held holds tag. sym (ap (is_due int_cmp (Included c.args.now)) (holds.leaving tag) ∙ due_come c.args.self.now.millis c.args.now (held tag)) ∙ simp to_z-of_z at c.in_err-tag.ensures.none tag)

pub returns-clause-due : goal.returns-clause-due
returns-clause-due c held holds =
    let time = c.ranges.now in
    sym (ap (is_due int_cmp (Included c.args.now)) (holds.leaving c.in_ok-tag.tag) ∙ due_come c.args.self.now.millis c.args.now (held c.in_ok-tag.tag))
    ∙ ap (is_due int_cmp (Included c.args.now)) c.in_ok-tag.ensures.there ∙ ap not (simp to_z-of_z at c.in_ok-tag.ensures.due)

pub returns-clause-leave : goal.returns-clause-leave
returns-clause-leave c = leave_one c.args.self.now _ _ _ refl c.in_ok-tag.ensures.kept c.in_ok-tag.ensures.there
