use Rattle.session.proofs.Common.{◌∙◌, ap, to_z-of_z, w64, SFits, Contents}
use Rattle.session.proofs.session.Session.clock.Goals as goal

pub returns : goal.returns
returns c w s =
    let fits : SFits w64 c.clock.result = search in
    to_z-of_z fits ∙ c.clock.ensures ∙ ap (λ (k : Contents). k.clock) c.deref.ensures ∙ s.seen.whole.mirrors.clock
