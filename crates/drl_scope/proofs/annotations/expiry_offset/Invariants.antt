use Rattle.drl_scope.proofs.Common.{◌≡◌, drop, declared_expiry}
use Rattle.drl_scope.proofs.annotations.expiry_offset.Given as goal

abbrev pub invariant-loop-meta : goal.invariant-loop-meta
invariant-loop-meta l = declared_expiry (drop l.meta-index l.tree.metas) ≡ declared_expiry l.tree.metas
