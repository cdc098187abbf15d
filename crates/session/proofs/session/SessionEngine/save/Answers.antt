use Rattle.session.proofs.Common.{IfOk-weaker}
use Rattle.session.proofs.session.SessionEngine.save.Goals as goal

pub returns-clause-lawful : goal.returns-clause-lawful
returns-clause-lawful c w st = c.save.ensures.lawful w st.1

pub returns-clause-image : goal.returns-clause-image
returns-clause-image c = IfOk-weaker c.save.result _ _ (λ image is w st. is w st.1) c.save.ensures.image
