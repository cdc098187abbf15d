use Rattle.drl_compile.proofs.Common.{◌≡◌, drop, field_bound}
use Rattle.drl_compile.proofs.conditions_of.bound_field.Given as goal

abbrev pub invariant-loop-part : goal.invariant-loop-part
invariant-loop-part l = field_bound l.var (drop l.part-index l.parts) ≡ field_bound l.var l.parts
