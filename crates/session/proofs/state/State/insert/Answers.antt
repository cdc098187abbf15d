use Rattle.session.proofs.Common.{◌≡◌, ◌∙◌, List, ap, nat_lt, length, Some, None, [], ◌∷◌, ◌++◌, subst, sym, Fact, Insert, Contents, insert_fault, insert_line}
use Rattle.session.proofs.Common.{done_lines, on_ok, on_ok_weaker, refused_lines, refused_tries, tried_done, StayKnown, new_known, one_more_known, refl}
use Rattle.{std.proofs.lemmas.Bool.{and_parts}, answer_lines.specs.declared.lines.OutLine.{OutLine}, session_model.specs.Gives.{new_line}}
use Rattle.session_model.proofs.Faults.{numbered}
use Rattle.session.proofs.state.State.insert.Goals as goal

pub returns-in_ok-push-in-Ok-clause-stands : goal.returns-in_ok-push-in-Ok-clause-stands
returns-in_ok-push-in-Ok-clause-stands c =
    let s = c.args.setting.now in
    let m = c.args.memory.now in
    let none = simp c.as_slice.ensures at c.in-Ok.ensures.none in
    on_ok_weaker c.take_new.result (λ moves. tried_done s m c.args.self.now (Insert c.args.ty c.args.entry c.args.fields) c.take_new.new.memory c.take_new.new.self
    (λ w st suits. insert_fault s m c.args.self.now w st c.args.ty c.args.entry c.args.fields None none) moves) c.take_new.ensures.stands

pub returns-in_ok-push-in-Ok-clause-lines : goal.returns-in_ok-push-in-Ok-clause-lines
returns-in_ok-push-in-Ok-clause-lines c =
    let s = c.args.setting.now in
    let m = c.args.memory.now in
    let k = c.args.self.now in
    let none = simp c.as_slice.ensures at c.in-Ok.ensures.none in
    let times = simp c.as_slice.ensures at c.in-Ok.ensures.times in
    let old = c.args.lines.now.items in
    let new : Contents → Fact = λ z. numbered z c.args.ty c.args.entry c.args.fields c.in-Ok.times in
    let written = c.in_ok-push-in-Ok.ensures.items ∙ ap (λ line. old ++ line ∷ []) c.in_ok-line_of_new-in-Ok.ensures in
    on_ok c.take_new.result (done_lines s m k (Insert c.args.ty c.args.entry c.args.fields) old c.push.new.self.items (new_line s.detail (new k) ∷ [])
    (λ w st suits. insert_fault s m k w st c.args.ty c.args.entry c.args.fields None none)
    (λ w st suits. insert_line s m k w st c.args.ty c.args.entry c.args.fields c.in-Ok.times times)
    (subst (λ (z : Contents). c.push.new.self.items ≡ old ++ new_line s.detail (new z) ∷ []) c.self.view_is written))

pub returns-in-Err-clause-stands : goal.returns-in-Err-clause-stands
returns-in-Err-clause-stands c =
    let s = c.args.setting.now in
    let m = c.args.memory.now in
    let fault = simp c.as_slice.ensures at c.in-Err.ensures.fault in
    on_ok c.refuse.result (refused_tries s m c.args.self.now (Insert c.args.ty c.args.entry c.args.fields) c.in-Err.code
    (λ w st suits. insert_fault s m c.args.self.now w st c.args.ty c.args.entry c.args.fields (Some c.in-Err.code) fault) c.args.self.now refl)

pub returns-in-Err-clause-lines : goal.returns-in-Err-clause-lines
returns-in-Err-clause-lines c =
    let s = c.args.setting.now in
    let m = c.args.memory.now in
    let fault = simp c.as_slice.ensures at c.in-Err.ensures.fault in
    on_ok_weaker c.refuse.result (refused_lines s m c.args.self.now (Insert c.args.ty c.args.entry c.args.fields) c.in-Err.code
    (λ w st suits. insert_fault s m c.args.self.now w st c.args.ty c.args.entry c.args.fields (Some c.in-Err.code) fault) c.args.lines.now.items c.refuse.new.lines.items) c.refuse.ensures.lines

pub returns-in_ok-push-in-Ok-clause-known : goal.returns-in_ok-push-in-Ok-clause-known
returns-in_ok-push-in-Ok-clause-known c = λ known.
    let p = c.args.setting.now.program in
    let old = c.args.lines.now.items in
    let d = c.args.setting.now.detail in
    let written = ◌∙◌ {A = List OutLine} c.in_ok-push-in-Ok.ensures.items (ap (λ line. old ++ line ∷ []) c.in_ok-line_of_new-in-Ok.ensures) in
    let there = (and_parts (nat_lt c.args.ty.0 (length p.types)) (nat_lt c.args.entry.0 (length p.entries)) known).0 in
    on_ok c.take_new.result (subst (StayKnown p old) (sym written) (one_more_known p old (new_line d _) (new_known p _ d there)))

pub returns-in_ok-push-in-Ok-clause-sound : goal.returns-in_ok-push-in-Ok-clause-sound
returns-in_ok-push-in-Ok-clause-sound c = λ known.
    c.take_new.ensures.sound (and_parts (nat_lt c.args.ty.0 (length c.args.setting.now.program.types)) (nat_lt c.args.entry.0 (length c.args.setting.now.program.entries)) known).1

pub returns-in-Err-clause-known : goal.returns-in-Err-clause-known
returns-in-Err-clause-known c = λ known. c.refuse.ensures.known c.args.setting.now.program
