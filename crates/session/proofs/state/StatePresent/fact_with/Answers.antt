use Rattle.session.proofs.Common.{◌∙◌, ap, newest, Contents, presented, contents}
use Rattle.session.proofs.state.StatePresent.fact_with.Goals as goal

pub returns : goal.returns
returns c =
    presented (contents c.self.inside.facts c.self.inside.expiries c.self.inside.clock c.self.inside.course c.self.inside.agenda c.self.inside.next_id c.self.inside.next_tag) c.self.invariant c.args.id.0 c.get.result c.get.ensures.some c.get.ensures.none
    ∙ ap (λ (k : Contents). newest k c.args.id.0) c.self.view_is
