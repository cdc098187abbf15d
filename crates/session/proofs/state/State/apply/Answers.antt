use Rattle.session.proofs.Common.{refl, on_ok, on_ok_weaker, refused_stands, refused_writes, tried_stands, tried_writes}
use Rattle.session.proofs.state.State.apply.Goals as goal

pub returns-in-Ok-clause-stands : goal.returns-in-Ok-clause-stands
returns-in-Ok-clause-stands c =
    rw c.in-Ok.is (on_ok_weaker c.step.result (tried_stands c.args.setting.now c.args.memory.now c.args.self.now c.in-Ok.step c.step.new.memory c.step.new.self) c.step.ensures.stands)

pub returns-in-Ok-clause-lines : goal.returns-in-Ok-clause-lines
returns-in-Ok-clause-lines c =
    rw c.in-Ok.is (on_ok_weaker c.step.result (tried_writes c.args.setting.now c.args.memory.now c.args.self.now c.in-Ok.step c.args.lines.now.items c.step.new.lines.items) c.step.ensures.lines)

pub returns-in-Err-clause-stands : goal.returns-in-Err-clause-stands
returns-in-Err-clause-stands c =
    rw c.in-Err.is (on_ok c.refuse.result (refused_stands c.args.setting.now c.args.memory.now c.args.self.now c.in-Err.code c.args.self.now refl))

pub returns-in-Err-clause-lines : goal.returns-in-Err-clause-lines
returns-in-Err-clause-lines c =
    rw c.in-Err.is (on_ok_weaker c.refuse.result (refused_writes c.args.setting.now c.args.memory.now c.args.self.now c.in-Err.code c.args.lines.now.items c.refuse.new.lines.items) c.refuse.ensures.lines)

pub returns-in-Err-clause-known : goal.returns-in-Err-clause-known
returns-in-Err-clause-known c = λ known. c.refuse.ensures.known c.args.setting.now.program
