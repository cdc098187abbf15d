use Rattle.session.proofs.{Common.{IfOk-weaker}, Answering.{both_ok}}
use Rattle.session.proofs.session.SessionEngine.resume.Goals as goal

pub returns-clause-stands : goal.returns-clause-stands
returns-clause-stands c = IfOk-weaker c.resume.result _ _ (λ s both w lawful of_world. (both.0, both.1 w lawful of_world))
    (both_ok c.resume.result _ _ c.resume.ensures.detail c.resume.ensures.stands)
