use Rattle.{session.proofs.Common.{◌∙◌, ap, is_some, is_due, Contents}, fx_base.proofs.Sequences.{is_some-map}, rule_model.specs.Matches.{fire_cmp}}
use Rattle.rule_model.specs.First.{first}
use Rattle.session.proofs.session.Session.due.Goals as goal

pub returns : goal.returns
returns c w s =
    c.is_some.ensures ∙ is_some-map (λ m. m.now) c.top.result ∙ ap is_some c.top.ensures
    ∙ ap (λ (k : Contents). is_some (first (fire_cmp k.agenda.saliences) k.agenda.pending)) c.deref.ensures
    ∙ is_due c.args.self.now.setting c.args.self.now.memory.value c.args.self.now.state.value w s
