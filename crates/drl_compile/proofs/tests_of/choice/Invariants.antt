use Rattle.drl_compile.proofs.Common.{◌≡◌, ◌++◌, map, drop, compare_of}
use Rattle.drl_compile.proofs.tests_of.choice.Given as goal

abbrev pub invariant-loop-cmp : goal.invariant-loop-cmp
invariant-loop-cmp l = l.compares.items ++ map (compare_of l.ty l.place.sight) (drop l.cmp-index l.group) ≡ map (compare_of l.ty l.place.sight) l.group
