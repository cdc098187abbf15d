use Rattle.counting_node.proofs.Common.{◌∙◌, ap, is_some, is_some-map}
use Rattle.counting_node.proofs.node.TallyNode.has_left.Goals as goal

pub returns : goal.returns
returns g c = c.is_some.ensures ∙ is_some-map _ c.kept_for.result ∙ ap is_some c.kept_for.ensures
