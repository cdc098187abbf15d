use Rattle.{std.proofs.Common.{Err, ℕ, List, Option, Some, ap, subst}, change_rules.specs.Staying.{place_in}, image_making.specs.Change.{IsVerdictOf}}
use Rattle.desk.proofs.Outcomes.{rowless, refused_so, taken_so}
use Rattle.desk.proofs.changing.over.Goals as goal

pub returns-in-Ok-Ok : goal.returns-in-Ok-Ok
returns-in-Ok-Ok c =
    let asked = c.in_ok-asked.asked in
    let is = c.in_ok-asked.ensures in
    taken_so c.args.changing c.args.own.now c.args.kept.now c.requires.own c.requires.kept asked.needs asked.places.items
    is.needs is.from c.in-Ok-Ok.made c.in-Ok-Ok.carried asked.told.items
    (rw (c.in-Ok-Ok.field-0-is, c.deref.ensures.value) at c.in-Ok-Ok.ensures.taken) (rw c.in-Ok-Ok.field-0-is at c.in-Ok-Ok.ensures.run) is.told

pub returns-in-Ok-Err : goal.returns-in-Ok-Err
returns-in-Ok-Err c =
    let ch = c.args.changing in
    let asked = c.in_ok-asked.asked in
    let is = c.in_ok-asked.ensures in
    let code = c.in-Ok-Err.code in
    let verdict = subst (λ (places : List (Option ℕ)). IsVerdictOf ch.old ch.setting.program (place_in places) c.args.kept.now asked.needs ch.image (Some code))
    c.deref.ensures.value (rw c.in-Ok-Err.field-0-is at c.in-Ok-Err.ensures.refused) in (
      code,
      refused_so ch c.args.own.now c.args.kept.now c.requires.own c.requires.kept asked.needs asked.places.items is.needs is.from code verdict,
      c.in_ok-line-in-Ok-Err.ensures,
    )

pub returns-in-Err-NoRow : goal.returns-in-Err-NoRow
returns-in-Err-NoRow c =
    let ch = c.args.changing in
    let asked = c.in_ok-asked.ensures in
    rowless ch c.args.own.now c.args.kept.now c.requires.own c.requires.kept (λ fits w of.
    c.in-Err-NoRow.ensures.no_row (ap Err c.in-Err-NoRow.field-0-is) fits asked.needs asked.safe.short w of)
