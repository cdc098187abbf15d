use Rattle.session.proofs.Common.{◌∙◌, ap, facts_of, Contents}
use Rattle.session.proofs.state.State.saved.Goals as goal

pub returns-clause-saved : goal.returns-clause-saved
returns-clause-saved c = c.in_ok-image.ensures.saved c.from_vec.result (c.from_vec.ensures ∙ c.in_ok-into_facts.ensures ∙ ap (λ (z : Contents). facts_of z.facts) c.self.view_is)
