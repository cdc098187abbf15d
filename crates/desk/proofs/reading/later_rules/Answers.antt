use Rattle.{std.proofs.Common.{◌≡◌, ◌≢◌, Err, None, ap, sym}, desk.{specs.declared.reading.RulesFault.TheVariants.{Refused}, proofs.Wanting.{accepted_to_come}}}
use Rattle.desk.proofs.Wanting.{refused_to_come}
use Rattle.desk.proofs.reading.later_rules.Goals as goal

pub returns-in_err-rules-in-Some-clause-refused : goal.returns-in_err-rules-in-Some-clause-refused
returns-in_err-rules-in-Some-clause-refused g c refusal is files told =
    let same : Refused refusal ≡ c.in_err-rules-in-Some.field-0.0 = rw is at c.from_residual.ensures.1 in
    rw (c.in-Some.is, sym c.as_str.ensures) (refused_to_come _ refusal (c.in_err-rules-in-Some.ensures.refused refusal (ap Err (sym same)) files told))

pub returns-in_ok-rules-in-Some-clause-later : goal.returns-in_ok-rules-in-Some-clause-later
returns-in_ok-rules-in-Some-clause-later g c files told =
    let found : files c.as_str.result.now ≢ None = rw told at c.in_ok-rules-in-Some.ensures.found in
    rw (c.in-Some.is, sym c.as_str.ensures) (accepted_to_come _ c.in_ok-rules-in-Some.rules found (c.in_ok-rules-in-Some.ensures.accepted files told))
