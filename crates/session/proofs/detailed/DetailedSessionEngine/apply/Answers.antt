use Rattle.{session.{proofs.Common.{◌∙◌, ap, subst, gives_in}, specs.Sessions.{SessionStands}}, answer_lines.specs.declared.lines.Detail.{Detail}}
use Rattle.session.proofs.detailed.DetailedSessionEngine.apply.Goals as goal

pub returns-clause-lines : goal.returns-clause-lines
returns-clause-lines c w st = c.in_ok-inside.ensures.lines w st.1 ∙ ap (λ (d : Detail). (gives_in d c.args.self.inside.setting.program w c.args.change.now).0) st.0

pub returns-clause-next : goal.returns-clause-next
returns-clause-next c w st = (
  c.in_ok-inside.ensures.detail ∙ st.0,
  subst (λ (d : Detail). SessionStands c.in_ok-inside.inside (gives_in d c.args.self.inside.setting.program w c.args.change.now).1) st.0 (c.in_ok-inside.ensures.next w st.1),
)
