use Rattle.session.proofs.Common.{IfOk-weaker}
use Rattle.session.proofs.detailed.DetailedSessionEngine.held.Goals as goal

pub returns-clause-counts : goal.returns-clause-counts
returns-clause-counts c = IfOk-weaker c.held.result _ _ (λ numbers counts w st. counts w st.1) c.held.ensures.counts
