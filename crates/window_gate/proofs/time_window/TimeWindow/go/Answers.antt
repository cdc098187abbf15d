use Rattle.window_gate.proofs.{Common.{sym, subst, option_to_list, Leave, takes_out}, Holding.{leave_none, not_gone}}
use Rattle.window_gate.proofs.time_window.TimeWindow.go.Goals as goal

pub returns-in-Gone : goal.returns-in-Gone
returns-in-Gone c = subst (λ change. Leave c.args.self.now c.take_out.new.self (λ tag _. takes_out change tag) (option_to_list c.take_out.result)) (sym c.in-Gone.is) c.take_out.ensures

pub returns-in_default : goal.returns-in_default
returns-in_default c = leave_none c.args.self.now (λ tag _. takes_out c.args.change.now tag) (λ held holds. not_gone c.args.change.now c.in_default.not-Gone)
