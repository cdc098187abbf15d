use Rattle.{std.proofs.Common.{Err, ap, subst, sym, ◌∙◌}, fx_base.specs.Lists.{In}, rule_model.specs.Lent.{lent}, image_making.proofs.Loadable.{no_row}}
use Rattle.image_making.{proofs.Loadable.{residual_no_row, rows_come}, specs.AtHand.{fact_at}}
use Rattle.image_making.proofs.laden.loaded.Goals as goal

pub returns-in_err-changes-clause-no_row : goal.returns-in_err-changes-clause-no_row
returns-in_err-changes-clause-no_row c refused =
    no_row c.args.program.now c.args.image.now c.requires.loads (lent c.deref.result.now) c.as_slice-extras.result.now c.moment_of-moment.result (fact_at c.in_ok-held.held)
    (ap lent c.deref.ensures.value ∙ c.in_ok-kept.ensures ∙ c.requires.facts) c.as_slice-extras.ensures c.moment_of-moment.ensures.clock c.moment_of-moment.ensures.last_starts c.moment_of-moment.ensures.promises
    (λ f i. c.in_ok-held.ensures f (subst (In f) (sym c.requires.facts) i))
    (c.in_err-changes.ensures.no_row (ap Err (residual_no_row c.from_residual-in_err-changes.result c.in_err-changes.field-0.0 c.from_residual-in_err-changes.ensures.1 refused)))

pub returns-clause-rows : goal.returns-clause-rows
returns-clause-rows c =
    rows_come c.args.program.now c.args.image.now c.requires.loads (lent c.deref.result.now) c.as_slice-extras.result.now c.moment_of-moment.result (fact_at c.in_ok-held.held)
    (ap lent c.deref.ensures.value ∙ c.in_ok-kept.ensures ∙ c.requires.facts) c.as_slice-extras.ensures c.moment_of-moment.ensures.clock c.moment_of-moment.ensures.last_starts c.moment_of-moment.ensures.promises
    (λ f i. c.in_ok-held.ensures f (subst (In f) (sym c.requires.facts) i))
    c.in_ok-changes.changes.items c.in_ok-changes.ensures.rows
