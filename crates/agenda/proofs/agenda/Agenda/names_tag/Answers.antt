use Rattle.agenda.proofs.{Common.{◌∙◌, ap, list_any, Marks, names_tag, nat_lt}, Namings.{named_is}}
use Rattle.agenda.proofs.agenda.Agenda.names_tag.Goals as goal

pub returns : goal.returns
returns c =
    ap (nat_lt 0) (c.times_of.ensures ∙ c.self.invariant.counts.each c.args.tag.0) ∙ named_is c.args.tag.0 c.self.inside.pending.keys
    ∙ ap (λ (v : Marks). list_any (names_tag c.args.tag.0) v.pending) c.self.view_is
