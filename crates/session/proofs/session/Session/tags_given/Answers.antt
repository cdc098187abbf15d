use Rattle.{session.proofs.Common.{◌∙◌, ap, Contents}, std.proofs.Common.{◌-◌}}
use Rattle.session.proofs.session.Session.tags_given.Goals as goal

pub returns : goal.returns
returns c = c.tags_given.ensures ∙ ap (λ (k : Contents). k.next_tag - 1) c.deref.ensures
