use Rattle.{session.proofs.Common.{◌∙◌, ap, is_some, fires_in}, answer_lines.specs.declared.lines.Detail.{Detail}}
use Rattle.session.proofs.detailed.DetailedSessionEngine.due.Goals as goal

pub returns : goal.returns
returns c w st = c.due.ensures w st.1 ∙ ap (λ (d : Detail). is_some (fires_in d c.args.self.now.inside.setting.program w)) st.0
