use Rattle.session.proofs.Common.{◌∙◌, ap, facts_of, Contents}
use Rattle.session.proofs.state.State.lent.Goals as goal

pub returns-clause-saved : goal.returns-clause-saved
returns-clause-saved c = c.in_ok-apart.ensures.saved _ (c.in_ok-facts.ensures ∙ ap (λ (z : Contents). facts_of z.facts) c.self.view_is)
