use Rattle.session.{proofs.{Common.{◌≡◌, ◌∙◌, subst, fires_in}, Answering.{answers_for}}, specs.Sessions.{SessionStands}}
use Rattle.{engine.specs.Answers.{FiringAnswers}, answer_lines.specs.declared.lines.Detail.{Detail, TheVariants.{Full}}}
use Rattle.session.proofs.detailed.DetailedSessionEngine.fire_one.Goals as goal

pub returns-clause-answers : goal.returns-clause-answers
returns-clause-answers c w st =
    let after = c.in_ok-inside.inside in
    answers_for _ c.in_ok-inside.fired w (SessionStands after) (λ v. (after.setting.detail ≡ Full) × SessionStands after v) (λ v stands. (c.in_ok-inside.ensures.detail ∙ st.0, stands))
    (subst (λ (d : Detail). FiringAnswers (fires_in d c.args.self.inside.setting.program w) c.in_ok-inside.fired w (SessionStands after)) st.0 (c.in_ok-inside.ensures.answers w st.1))
