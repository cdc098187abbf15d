use Rattle.{std.proofs.Common.{◌≡◌, ◌∙◌, sym, subst, arith}, replay.specs.{declared.refusal.Refusal.{Refusal}, Refusals.{refusal_text}}}
use Rattle.desk.{specs.{declared.reading.RulesFault.TheVariants.{Refused}, Report.{IsSaid}}, proofs.Said.{said}}
use Rattle.desk.proofs.serving.refuse_rules.Goals as goal

pub returns-in-Refused-clause-refused : goal.returns-in-Refused-clause-refused
returns-in-Refused-clause-refused g c refusal is =
    let both : Refused c.in-Refused.refusal ≡ Refused refusal = sym c.in-Refused.is ∙ is in
    let same : c.in-Refused.refusal ≡ refusal = cc in
    subst (λ (r : Refusal). IsSaid (refusal_text r) 3 (g.K.Sink.written c.args.out.now) (g.K.Sink.written c.refuse.new.out) (g.K.Sink.files c.args.out.now)
    (g.K.Sink.files c.refuse.new.out) c.refuse.result) same
    (said (refusal_text c.in-Refused.refusal) 3 _ _ _ _ c.refuse.result c.refuse.ensures.files (λ three. (c.refuse.ensures.said (omega (arith, three))).0)
    c.refuse.ensures.front c.refuse.ensures.answers)
