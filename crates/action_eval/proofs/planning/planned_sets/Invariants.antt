use Rattle.{std.proofs.Common.{◌≡◌, Some, take}, rule_model.specs.{Lent.{bound_in}, Planned.{sets_of}}}
use Rattle.action_eval.proofs.planning.planned_sets.Given as goal

-- what stands is what the sets before this one give
abbrev pub invariant-loop-field : goal.invariant-loop-field
invariant-loop-field g l = Some l.planned.items ≡ sets_of (bound_in (g.F.Facts.map l.facts) l.row) (take l.field-index l.sets)
