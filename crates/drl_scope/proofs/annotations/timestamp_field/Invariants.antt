use Rattle.drl_scope.proofs.Common.{◌≡◌, drop, timestamp_of}
use Rattle.drl_scope.proofs.annotations.timestamp_field.Given as goal

abbrev pub invariant-loop-meta : goal.invariant-loop-meta
invariant-loop-meta l = timestamp_of (drop l.meta-index l.tree.metas) ≡ timestamp_of l.tree.metas
