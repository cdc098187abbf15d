use Rattle.session.proofs.Common.{refl, Begin, begin_is_done, no_lines, tried_done, on_ok_weaker}
use Rattle.session.proofs.state.State.begin.Goals as goal

pub returns-clause-stands : goal.returns-clause-stands
returns-clause-stands c =
    let s = c.args.setting.now in
    let m = c.args.memory.now in
    on_ok_weaker c.take_begin.result (λ moves. tried_done s m c.args.self.now Begin c.take_begin.new.memory c.take_begin.new.self (λ w st suits. begin_is_done s.program w) moves) c.take_begin.ensures.stands

pub returns-clause-lines : goal.returns-clause-lines
returns-clause-lines c lines = no_lines c.args.setting.now c.args.memory.now c.args.self.now Begin lines (λ w st suits. begin_is_done c.args.setting.now.program w) (λ w. refl)
