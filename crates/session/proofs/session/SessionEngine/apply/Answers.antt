use Rattle.session.{proofs.{Common.{◌∙◌, ap, subst, IfOk-weaker, gives_in}, Answering.{both_ok}}, specs.Sessions.{SessionStands}}
use Rattle.answer_lines.specs.declared.lines.Detail.{Detail}
use Rattle.session.proofs.session.SessionEngine.apply.Goals as goal

pub returns-clause-lines : goal.returns-clause-lines
returns-clause-lines c = IfOk-weaker c.apply.result _ _
    (λ r lines w st. lines w st.1 ∙ ap (λ (d : Detail). (gives_in d c.args.self.setting.program w c.args.change.now).0) st.0) c.apply.ensures.lines

pub returns-clause-next : goal.returns-clause-next
returns-clause-next c = IfOk-weaker c.apply.result _ _
    (λ r next w st. (next.0 ∙ st.0, subst (λ (d : Detail). SessionStands r.0 (gives_in d c.args.self.setting.program w c.args.change.now).1) st.0 (next.1 w st.1)))
    (both_ok c.apply.result _ _ c.apply.ensures.detail c.apply.ensures.next)
