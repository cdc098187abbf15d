use Rattle.rete_net.proofs.{Common.{subst, sym, ◌∙◌, IsBefore, IsGateStill}, Gating.{gate_still}, Stillness.{if_before}, Scheduling.{told_lead, told_none}}
use Rattle.{rete_net.proofs.Scheduling.{told_own}, fx_base.proofs.Sequences.{map-none, map-some}, candidate_source.specs.Sources.{source_at}}
use Rattle.rete_net.proofs.sourcing.gate_until.Goals as goal

pub returns-then-is_lead : goal.returns-then-is_lead
returns-then-is_lead c =
    let of = map-some c.source.result (λ s. s.now) (source_at c.args.sources.now c.args.place) c.in-Some.source c.source.ensures c.in-Some.is in
    told_lead c.args.sources.now c.args.place c.args.node.now _ c.in-Some.source.now of (sym c.if-is_lead.ensures)
    (λ clock before. gate_still c.in-Some.source.now.gate c.quiet_until.result c.quiet_until.ensures.stands c.quiet_until.ensures.candidates clock
    (if_before c.quiet_until.result clock (subst (λ until. IsBefore until clock) c.widened.ensures before)))

pub returns-else-is_lead : goal.returns-else-is_lead
returns-else-is_lead c =
    let of = map-some c.source.result (λ s. s.now) (source_at c.args.sources.now c.args.place) c.in-Some.source c.source.ensures c.in-Some.is in
    told_none c.args.sources.now c.args.place c.args.node.now _ c.in-Some.source.now of (sym c.if-is_lead.ensures)

pub returns-in-None : goal.returns-in-None
returns-in-None c =
    told_own c.args.sources.now c.args.place c.args.node.now _ (map-none c.source.result (λ s. s.now) (source_at c.args.sources.now c.args.place) c.source.ensures c.in-None.is)
    (λ clock before. gate_still c.args.node.now.gate c.quiet_until-in-None.result c.quiet_until-in-None.ensures.stands c.quiet_until-in-None.ensures.candidates clock
    (if_before c.quiet_until-in-None.result clock (subst (λ until. IsBefore until clock) c.widened-in-None.ensures before)))
