use Rattle.session.proofs.Common.{◌≡◌, ◌∙◌, ◌++◌, [], ◌∷◌, List, sym, ap, subst, rules, marked, does_all, on_ok_weaker, StayKnown, one_more_known}
use Rattle.answer_lines.specs.declared.lines.OutLine.{OutLine}
use Rattle.session.proofs.state.State.fire.Goals as goal

pub returns-clause-stands : goal.returns-clause-stands
returns-clause-stands c = on_ok_weaker c.apply_all.result (λ done w m st top fit. done (marked w m) (c.in_ok-mark.ensures.stands w m st top) fit) c.apply_all.ensures.stands

pub returns-clause-lines : goal.returns-clause-lines
returns-clause-lines c =
    let s = c.args.setting.now in
    let old = c.args.lines.now.items in
    let line = c.args.firing.line in
    let joined : (more : List OutLine) → (old ++ line ∷ []) ++ more ≡ old ++ line ∷ [] ++ more = λ more. search rules in
    on_ok_weaker c.apply_all.result
    (λ done w m st top fit.
    let more = (does_all s.detail s.program (marked w m) c.args.firing.plan.items).0 in
    done (marked w m) (c.in_ok-mark.ensures.stands w m st top) fit ∙ ap (λ before. before ++ more) c.in_ok-push.ensures.items ∙ joined more) c.apply_all.ensures.lines

pub returns-clause-sound : goal.returns-clause-sound
returns-clause-sound c plan = on_ok_weaker c.apply_all.result (λ stays sound. stays (c.in_ok-mark.ensures.sound sound)) (c.apply_all.ensures.sound plan)

pub returns-clause-known : goal.returns-clause-known
returns-clause-known c known plan =
    let p = c.args.setting.now.program in
    let old = c.args.lines.now.items in
    let first : StayKnown p old c.push.new.self.items = subst (StayKnown p old) (sym c.in_ok-push.ensures.items) (one_more_known p old c.args.firing.line known) in
    on_ok_weaker c.apply_all.result (λ more before. more (first before)) (c.apply_all.ensures.known plan)
