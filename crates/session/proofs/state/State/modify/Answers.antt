use Rattle.session.proofs.Common.{Some, None, refl, sym, subst, Modify, StayKnown, modify_fault_is, revision_known, done_lines, on_ok, on_ok_weaker}
use Rattle.{session.proofs.Common.{refused_lines, refused_tries, tried_done}, session_model.proofs.Telling.{modify_line}}
use Rattle.session.proofs.state.State.modify.Goals as goal

pub returns-in-Ok-clause-stands : goal.returns-in-Ok-clause-stands
returns-in-Ok-clause-stands c =
    let s = c.args.setting.now in
    let m = c.args.memory.now in
    on_ok_weaker c.take_sets.result (λ moves. tried_done s m c.args.self.now (Modify c.args.id c.args.sets) c.take_sets.new.memory c.take_sets.new.self
    (λ w st suits. modify_fault_is s m c.args.self.now w c.requires.runs st c.args.id c.args.sets None suits.plain c.in-Ok.ensures.none) moves) c.take_sets.ensures.stands

pub returns-in-Ok-clause-lines : goal.returns-in-Ok-clause-lines
returns-in-Ok-clause-lines c =
    let s = c.args.setting.now in
    let m = c.args.memory.now in
    let k = c.args.self.now in
    on_ok_weaker c.take_sets.result (done_lines s m k (Modify c.args.id c.args.sets) c.args.lines.now.items c.take_sets.new.lines.items _
    (λ w st suits. modify_fault_is s m k w c.requires.runs st c.args.id c.args.sets None suits.plain c.in-Ok.ensures.none)
    (λ w st suits. modify_line s m k w c.requires.runs st c.args.id c.in-Ok.tag c.in-Ok.ensures.tag c.args.sets suits.plain)) c.take_sets.ensures.lines

pub returns-in-Ok-clause-known : goal.returns-in-Ok-clause-known
returns-in-Ok-clause-known c = λ known.
    let s = c.args.setting.now in
    on_ok_weaker c.take_sets.result (λ told. subst (StayKnown s.program c.args.lines.now.items) (sym told) (revision_known s.program c.args.lines.now.items s.detail _))
    c.take_sets.ensures.lines

pub returns-in-Err-clause-stands : goal.returns-in-Err-clause-stands
returns-in-Err-clause-stands c =
    let s = c.args.setting.now in
    let m = c.args.memory.now in
    on_ok c.refuse.result (refused_tries s m c.args.self.now (Modify c.args.id c.args.sets) c.in-Err.code
    (λ w st suits. modify_fault_is s m c.args.self.now w c.requires.runs st c.args.id c.args.sets (Some c.in-Err.code) suits.plain c.in-Err.ensures.fault) c.args.self.now refl)

pub returns-in-Err-clause-lines : goal.returns-in-Err-clause-lines
returns-in-Err-clause-lines c =
    let s = c.args.setting.now in
    let m = c.args.memory.now in
    on_ok_weaker c.refuse.result (refused_lines s m c.args.self.now (Modify c.args.id c.args.sets) c.in-Err.code
    (λ w st suits. modify_fault_is s m c.args.self.now w c.requires.runs st c.args.id c.args.sets (Some c.in-Err.code) suits.plain c.in-Err.ensures.fault) c.args.lines.now.items c.refuse.new.lines.items) c.refuse.ensures.lines

pub returns-in-Err-clause-known : goal.returns-in-Err-clause-known
returns-in-Err-clause-known c = λ known. c.refuse.ensures.known c.args.setting.now.program
