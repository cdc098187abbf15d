use Rattle.subrules.proofs.Common.{◌≡◌, map, drop, inherited_fields}
use Rattle.subrules.proofs.types.all_fields.Given as goal

abbrev pub invariant-loop-tree : goal.invariant-loop-tree
invariant-loop-tree l = inherited_fields l.fields.items (map (λ t. t.now) (drop l.tree-index l.above)) ≡ inherited_fields l.own (map (λ t. t.now) l.above)
