use Rattle.drl_scope.proofs.Common.{◌≡◌, drop, role_of}
use Rattle.drl_scope.proofs.annotations.is_event_tree.Given as goal

abbrev pub invariant-loop-meta : goal.invariant-loop-meta
invariant-loop-meta l = role_of (drop l.meta-index l.tree.metas) ≡ role_of l.tree.metas
