use Rattle.candidate_source.proofs.{Common.{◌∙◌, ap, Some, ◌∷◌, ◌++◌, [], ℕ}, Growing.{lead_put}}
use Rattle.candidate_source.proofs.sources.Sources.put_lead.Goals as goal

pub returns-clause-apart : goal.returns-clause-apart
returns-clause-apart c apart =
    lead_put c.args.self.now _ (Some c.len.result) c.in_ok-push.ensures.items c.new-source.result c.new-source.ensures.reached (ap Some (c.len.ensures ∙ c.args.self.now.list.ok.0)) c.in_ok-push-3.ensures.items
    (c.in_ok-push-2.ensures.items ∙ ap (λ (n : ℕ). c.args.self.now.leads.items ++ n ∷ []) (c.len-lead.ensures ∙ c.args.self.now.of.ok.0)) apart
