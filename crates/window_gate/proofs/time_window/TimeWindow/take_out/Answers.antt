use Rattle.window_gate.proofs.{Common.{sym, ap, refl, [], option_to_list, has_version}, Holding.{leave_one, leave_absent, leave_listed}}
use Rattle.window_gate.proofs.time_window.TimeWindow.take_out.Goals as goal

pub returns : goal.returns
returns c = leave_one c.args.self.now _ _ (record { id = c.in_ok-id.id; tag = c.args.tag }) refl c.in_ok-id.ensures.kept (sym c.in_ok-id.ensures.before)

pub returns-in_err-id : goal.returns-in_err-id
returns-in_err-id c =
    leave_listed c.args.self.now _ _ [] _ (λ named. ap (λ o. has_version (option_to_list o) named) c.from_residual.ensures)
    (leave_absent c.args.self.now _ c.args.tag.0 refl c.in_err-id.ensures.kept (sym c.in_err-id.ensures.before))
