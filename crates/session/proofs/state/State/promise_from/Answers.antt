use Rattle.session.proofs.Common.{◌≡◌, Some, None, refl, ◌∙◌, ap, subst, to_z, of_z, to_z-of_z, SFits, w64, Promise, promise_fault, MovesSession, Contents}
use Rattle.session.proofs.Common.{reached_of, promise_refused, no_lines, on_ok, on_ok_weaker, refused_lines, refused_tries, tried_done}
use Rattle.session.proofs.state.State.promise_from.Goals as goal

pub returns-in-Ok-clause-stands : goal.returns-in-Ok-clause-stands
returns-in-Ok-clause-stands c =
    let s = c.args.setting.now in
    let m = c.args.memory.now in
    let whole : to_z w64 (of_z w64 c.args.from) ≡ c.args.from = to_z-of_z c.ranges.from in
    let promise : to_z w64 (of_z w64 c.promise.result) ≡ c.promise.result = (let fits : SFits w64 c.promise.result = search in to_z-of_z fits) in
    let none_at = simp (whole, promise) at c.in-Ok.ensures.none in
    let none_here = simp c.promise.ensures at none_at in
    let none = subst (λ (k : Contents). promise_fault ((reached_of k).promise c.args.entry.0) c.args.from ≡ None) c.self.view_is none_here in
    let from : c.in-Ok.from ≡ c.args.from = simp whole at c.in-Ok.ensures.promise in
    let next : to_z w64 (of_z w64 c.in-Ok.from) ≡ c.args.from = ap (λ z. to_z w64 (of_z w64 z)) from ∙ whole in
    on_ok_weaker c.take_promise.result (λ moves. tried_done s m c.args.self.now (Promise c.args.entry c.args.from) c.take_promise.new.memory c.take_promise.new.self
    (λ w st suits. promise_refused s m c.args.self.now w st c.args.entry c.args.from None none)
    (subst (λ z. MovesSession s m c.args.self.now (Promise c.args.entry z) c.take_promise.new.memory c.take_promise.new.self) next moves)) c.take_promise.ensures.stands

pub returns-in-Ok-clause-lines : goal.returns-in-Ok-clause-lines
returns-in-Ok-clause-lines c =
    let s = c.args.setting.now in
    let m = c.args.memory.now in
    let whole : to_z w64 (of_z w64 c.args.from) ≡ c.args.from = to_z-of_z c.ranges.from in
    let promise : to_z w64 (of_z w64 c.promise.result) ≡ c.promise.result = (let fits : SFits w64 c.promise.result = search in to_z-of_z fits) in
    let none_at = simp (whole, promise) at c.in-Ok.ensures.none in
    let none_here = simp c.promise.ensures at none_at in
    let none = subst (λ (k : Contents). promise_fault ((reached_of k).promise c.args.entry.0) c.args.from ≡ None) c.self.view_is none_here in
    on_ok c.take_promise.result (no_lines s m c.args.self.now (Promise c.args.entry c.args.from) c.args.lines.now.items (λ w st suits. promise_refused s m c.args.self.now w st c.args.entry c.args.from None none) (λ w. refl))

pub returns-in-Err-clause-stands : goal.returns-in-Err-clause-stands
returns-in-Err-clause-stands c =
    let s = c.args.setting.now in
    let m = c.args.memory.now in
    let whole : to_z w64 (of_z w64 c.args.from) ≡ c.args.from = to_z-of_z c.ranges.from in
    let promise : to_z w64 (of_z w64 c.promise.result) ≡ c.promise.result = (let fits : SFits w64 c.promise.result = search in to_z-of_z fits) in
    let fault_at = simp (whole, promise) at c.in-Err.ensures.fault in
    let fault_here = simp c.promise.ensures at fault_at in
    let fault = subst (λ (k : Contents). promise_fault ((reached_of k).promise c.args.entry.0) c.args.from ≡ Some c.in-Err.code) c.self.view_is fault_here in
    on_ok c.refuse.result (refused_tries s m c.args.self.now (Promise c.args.entry c.args.from) c.in-Err.code (λ w st suits. promise_refused s m c.args.self.now w st c.args.entry c.args.from (Some c.in-Err.code) fault) c.args.self.now refl)

pub returns-in-Err-clause-lines : goal.returns-in-Err-clause-lines
returns-in-Err-clause-lines c =
    let s = c.args.setting.now in
    let m = c.args.memory.now in
    let whole : to_z w64 (of_z w64 c.args.from) ≡ c.args.from = to_z-of_z c.ranges.from in
    let promise : to_z w64 (of_z w64 c.promise.result) ≡ c.promise.result = (let fits : SFits w64 c.promise.result = search in to_z-of_z fits) in
    let fault_at = simp (whole, promise) at c.in-Err.ensures.fault in
    let fault_here = simp c.promise.ensures at fault_at in
    let fault = subst (λ (k : Contents). promise_fault ((reached_of k).promise c.args.entry.0) c.args.from ≡ Some c.in-Err.code) c.self.view_is fault_here in
    on_ok_weaker c.refuse.result (refused_lines s m c.args.self.now (Promise c.args.entry c.args.from) c.in-Err.code (λ w st suits. promise_refused s m c.args.self.now w st c.args.entry c.args.from (Some c.in-Err.code) fault)
    c.args.lines.now.items c.refuse.new.lines.items) c.refuse.ensures.lines

pub returns-in-Ok-clause-known : goal.returns-in-Ok-clause-known
returns-in-Ok-clause-known c = λ known. on_ok c.take_promise.result (λ before. before)

pub returns-in-Err-clause-known : goal.returns-in-Err-clause-known
returns-in-Err-clause-known c = λ known. c.refuse.ensures.known c.args.setting.now.program
