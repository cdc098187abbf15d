use Rattle.session.{proofs.{Common.{◌∙◌, subst, IfOk-weaker, fires_in}, Answering.{answers_for, both_ok}}, specs.Sessions.{SessionStands, StandsInBrief}}
use Rattle.{engine.specs.Answers.{FiringAnswers}, answer_lines.specs.declared.lines.Detail.{Detail}}
use Rattle.session.proofs.session.SessionEngine.fire_one.Goals as goal

pub returns-clause-answers : goal.returns-clause-answers
returns-clause-answers c = IfOk-weaker c.fire_one.result _ _
    (λ r both w st.
    answers_for _ r.1 w (SessionStands r.0) (StandsInBrief r.0) (λ v stands. (both.0 ∙ st.0, stands))
    (subst (λ (d : Detail). FiringAnswers (fires_in d c.args.self.setting.program w) r.1 w (SessionStands r.0)) st.0 (both.1 w st.1)))
    (both_ok c.fire_one.result _ _ c.fire_one.ensures.detail c.fire_one.ensures.answers)
