use Rattle.window_gate.proofs.Common.{Vec, Global, ◌≡◌, ◌∙◌, sym, ap, List, ◌++◌, append-nil, option_to_list, to_z-of_z, Named, has_version, has_time_come}
use Rattle.window_gate.proofs.{Common.{takes_out, leaves, Leave}, Holding.{leave_then, leave_listed}, time_window.TimeWindow.leave.Goals.{in-Some+in_ok-push}}
use Rattle.window_gate.proofs.time_window.TimeWindow.leave.Goals.{in_default}
use Rattle.window_gate.proofs.time_window.TimeWindow.leave.Goals as goal

-- those that are due, and the one that goes
both : (c : goal.In_ok-ordered) → Leave c.args.self.now c.go.new.self (leaves c.args.self.now.millis c.args.now c.args.change.now) (c.in_ok-left.left.items ++ option_to_list c.go.result)
both c =
    let time = c.ranges.now in
    leave_then c.args.self.now c.leave_by_time.new.self c.go.new.self (λ _ one. has_time_come c.args.self.now.millis c.args.now one) (λ tag _. takes_out c.args.change.now tag) c.in_ok-left.left.items (option_to_list c.go.result)
    (simp to_z-of_z at c.in_ok-left.ensures) c.go.ensures

pub returns-clause-leave : goal.returns-clause-leave
returns-clause-leave c =
    leave_listed c.args.self.now c.go.new.self (leaves c.args.self.now.millis c.args.now c.args.change.now) (c.in_ok-left.left.items ++ option_to_list c.go.result) c.in_ok-ordered.ordered.items
    (λ named. c.in_ok-ordered.ensures.same named ∙ ap (λ (xs : List Named). has_version xs named) items) (both c)
  where
    items : c.match-go.left.items ≡ c.in_ok-left.left.items ++ option_to_list c.go.result
    items = elim c.match-go.branch [
      | in-Some+in_ok-push w ↦ ap (λ (v : Vec Named Global). v.items) w.left-is ∙ w.in_ok-push.ensures.items ∙ ap (λ o. c.in_ok-left.left.items ++ option_to_list o) (sym w.in-Some.is)
      | in_default w ↦ ap (λ (v : Vec Named Global). v.items) w.left-is ∙ sym (append-nil c.in_ok-left.left.items) ∙ ap (λ o. c.in_ok-left.left.items ++ option_to_list o) (sym w.in_default.is)
    ]
