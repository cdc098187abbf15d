use Rattle.subrules.proofs.Common.{◌≡◌, map, drop, inherited_metas}
use Rattle.subrules.proofs.types.all_metas.Given as goal

abbrev pub invariant-loop-tree : goal.invariant-loop-tree
invariant-loop-tree l = inherited_metas l.metas.items (map (λ t. t.now) (drop l.tree-index l.above)) ≡ inherited_metas l.own (map (λ t. t.now) l.above)
