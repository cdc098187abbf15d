use Rattle.{std.proofs.Common.{Err, ap, inr, refl}, replay.specs.declared.refused_checkpoint.CheckpointCode.TheVariants.{Unfit}}
use Rattle.fed_desk.proofs.opening.open_in.Goals as goal

pub returns-in-Err-Unfit-clause-refused : goal.returns-in-Err-Unfit-clause-refused
returns-in-Err-Unfit-clause-refused g c = (
  Unfit,
  c.in_ok-line-in-Err-Unfit.ensures,
  inr (refl, (c.in_ok-table.table, c.in_ok-table.ensures.lives, c.in-Ok.beginning, c.in-Ok.ensures.found, c.in-Err-Unfit.ensures.unfit (ap Err c.in-Err-Unfit.field-0-is))),
)
