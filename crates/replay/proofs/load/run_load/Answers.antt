use Rattle.replay.proofs.{Common.{◌≡◌, refl, sym, ap, ◌∙◌, inl, inr, arith, rules_text, Accepted, Refused, reading, sums_up}, Calls.{load_done, load_not_nine}}
use Rattle.replay.proofs.{Calls.{nothing_done}, LoadFile.{load_file_accepted}, Reports.{a_load}}
use Rattle.replay.proofs.load.run_load.Goals as goal

pub returns-in-Err : goal.returns-in-Err
returns-in-Err g c first last left given faults = nothing_done g.E.Engine.gives g.E.Engine.fires g.E.Engine.counts _ _ first last left given faults _ _ 7 (inr (inr (omega arith, omega arith))) (inl refl)

pub returns-in-Ok-Accepted : goal.returns-in-Ok-Accepted
returns-in-Ok-Accepted g c first last left given faults =
    let is : reading rules_text ≡ Accepted c.in-Ok-Accepted.program =
    ap reading (sym (c.as_slice.ensures ∙ c.in-Ok.ensures.rules)) ∙ sym c.in-Ok-Accepted.ensures.reading ∙ c.in-Ok-Accepted.field-0-is in
    rw (a_load c.args.number c.args.limit (Accepted c.in-Ok-Accepted.program) is)
    (load_done g.E.Engine.gives g.E.Engine.fires g.E.Engine.counts c.args.number c.args.limit (sums_up c.args.number c.args.limit c.in-Ok-Accepted.program) first last left given faults _ _ _ _ _
    (λ script. record {
      exact = λ low. let said = rw c.in-Ok.ensures.script at (c.run_and_sum_up.ensures.exact low) in (_, (said.0, said.1, refl), said.2);
      refused = λ nine. absurd (load_not_nine _ c.run_and_sum_up.ensures.answers nine);
      front = λ high r report. rw report.2 (rw c.in-Ok.ensures.script at (c.run_and_sum_up.ensures.front report.0 report.1 high));
    })
    c.run_and_sum_up.ensures.answers c.run_and_sum_up.ensures.cause)

pub returns-in-Ok-Refused : goal.returns-in-Ok-Refused
returns-in-Ok-Refused g c first last left given faults =
    let is : reading rules_text ≡ Refused c.in-Ok-Refused.refusal =
    ap reading (sym (c.as_slice.ensures ∙ c.in-Ok.ensures.rules)) ∙ sym c.in-Ok-Refused.ensures.reading ∙ c.in-Ok-Refused.field-0-is in
    let both : Refused c.in-Ok-Refused.refusal ≡ Accepted load_file_accepted.0 = sym is ∙ load_file_accepted.1 in absurd cc

pub returns : goal.returns
returns g c first last left given faults = nothing_done g.E.Engine.gives g.E.Engine.fires g.E.Engine.counts _ _ first last left given faults _ _ 7 (inr (inr (omega arith, omega arith))) (inl refl)
