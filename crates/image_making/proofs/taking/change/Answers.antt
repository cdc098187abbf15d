use Rattle.{std.{proofs.Common.{Err, Option, ap, refl, subst}, specs.Prelude.{IfNone}}, change_rules.specs.Staying.{place_in}}
use Rattle.{rule_change.specs.{declared.code.ChangeCode.{ChangeCode}, Refused.{HaveEntries, HaveTypes}}, image_making.proofs.Loadable.{residual_no_row}}
use Rattle.image_making.{proofs.{Missing.{none_missing_there}, Taken.{are_over, taken_over}}, specs.Change.{IsVerdictOf}}
use Rattle.image_making.proofs.taking.change.Goals as goal

pub returns-in_ok-carried-in-None-clause-taken : goal.returns-in_ok-carried-in-None-clause-taken
returns-in_ok-carried-in-None-clause-taken c =
    let p = c.args.old.now in
    let q = c.args.new.now in
    let from = place_in c.args.places.now in
    let kept = c.args.lives.now.kept.now in
    let own = c.args.lives.now.own.now in
    let ground : HaveTypes p q × HaveEntries p q = subst (λ (code : Option ChangeCode). IfNone code (HaveTypes p q × HaveEntries p q)) c.in-None.is c.in_ok-code.ensures.ground in
    taken_over c.the_changed_image_is_of_the_changed_world.ensures c.the_changed_image_fits.ensures p q from kept own c.args.image c.in_ok-made-in-None.made c.in_ok-carried-in-None.carried
    (are_over p q from c.requires.rules ground.0 ground.1)
    (subst (λ (code : Option ChangeCode). IsVerdictOf p q from kept own c.args.image code) c.in-None.is c.in_ok-code.ensures.verdict)
    c.in_ok-made-in-None.ensures.changed c.in_ok-carried-in-None.ensures (record c.args.image.run { rules = c.args.text }) refl refl c.in_ok-made-in-None.ensures.run

-- an image that fits has each of its rows
pub returns-in_err-code-clause-no_row : goal.returns-in_err-code-clause-no_row
returns-in_err-code-clause-no_row c refused fits lives short w of =
    none_missing_there c.args.old.now c.args.lives.now.kept.now c.args.image fits
    (c.in_err-code.ensures.no_row (ap Err (residual_no_row c.from_residual.result c.in_err-code.field-0.0 c.from_residual.ensures.1 refused)))
