use Rattle.drl_scope.proofs.Common.{◌≡◌, ◌++◌, drop, Some, flat_map, seen_in, seen_of}
use Rattle.drl_scope.proofs.sight.see_pattern.Given as goal

abbrev pub invariant-loop-part : goal.invariant-loop-part
invariant-loop-part l = l.seen.items ++ flat_map (seen_in l.fact l.ty) (drop l.part-index l.source.parts) ≡ l.fn.seen.items ++ seen_of l.fact l.source (Some l.ty)
