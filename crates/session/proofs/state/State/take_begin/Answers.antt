use Rattle.session.proofs.Common.{◌∙◌, [], sym, subst, ap, on_ok_weaker, Begin, stepped, is_tag_among, MovesSession, Awaits, Contents, Course, IsSound}
use Rattle.session.proofs.Common.{ReachesNoMore, reached_by, begin_awaits, contents}
use Rattle.session.proofs.state.State.take_begin.Goals as goal

pub returns-clause-stands : goal.returns-clause-stands
returns-clause-stands c =
    let s = c.args.setting.now in
    let m = c.args.memory.now in
    let k = (contents c.self.inside.facts c.self.inside.expiries c.self.inside.clock c.self.inside.course c.self.inside.agenda c.self.inside.next_id c.self.inside.next_tag) in
    on_ok_weaker c.settle.result
    (λ h. subst (λ (z : Contents). MovesSession s m z Begin c.settle.new.memory c.settle.new.self) c.self.view_is
    (λ w st none lawful. h (stepped s.program w Begin)
    (subst (λ (z : Course). Awaits s m (contents k.facts k.expiries k.clock z k.agenda k.next_id k.next_tag) (is_tag_among []) (stepped s.program w Begin)) (sym c.take_begin.ensures)
    (begin_awaits s m k w st c.requires.runs none lawful (is_tag_among [])))))
    c.settle.ensures.stands

pub returns-clause-sound : goal.returns-clause-sound
returns-clause-sound c = on_ok_weaker c.settle.result
    (λ stays sound. let here = subst (IsSound c.args.setting.now.program c.args.memory.now) (sym c.self.view_is) sound in stays (record { net = here.net; pending = here.pending; reached = subst (λ (z : Course). ReachesNoMore c.args.setting.now.program (reached_by z)) (sym c.take_begin.ensures) here.reached }))
    c.settle.ensures.sound

pub returns-clause-tags : goal.returns-clause-tags
returns-clause-tags c = on_ok_weaker c.settle.result (λ h. h ∙ ap (λ (k : Contents). k.next_tag) c.self.view_is) c.settle.ensures.tags
