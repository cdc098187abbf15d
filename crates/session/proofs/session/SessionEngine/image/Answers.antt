use Rattle.session.proofs.Common.{IfOk-weaker}
use Rattle.session.proofs.session.SessionEngine.image.Goals as goal

pub returns-clause-lawful : goal.returns-clause-lawful
returns-clause-lawful c w st = c.image.ensures.lawful w st.1

pub returns-clause-image : goal.returns-clause-image
returns-clause-image c = IfOk-weaker c.image.result _ _ (λ image is w st. is w st.1) c.image.ensures.image
