use Rattle.drl_scope.proofs.Common.{◌≡◌, drop, duration_field_of}
use Rattle.drl_scope.proofs.annotations.duration_field.Given as goal

abbrev pub invariant-loop-meta : goal.invariant-loop-meta
invariant-loop-meta l = duration_field_of (drop l.meta-index l.tree.metas) ≡ duration_field_of l.tree.metas
