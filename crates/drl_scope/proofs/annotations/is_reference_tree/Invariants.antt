use Rattle.drl_scope.proofs.Common.{◌≡◌, drop, reference_of}
use Rattle.drl_scope.proofs.annotations.is_reference_tree.Given as goal

abbrev pub invariant-loop-meta : goal.invariant-loop-meta
invariant-loop-meta l = reference_of (drop l.meta-index l.tree.metas) ≡ reference_of l.tree.metas
