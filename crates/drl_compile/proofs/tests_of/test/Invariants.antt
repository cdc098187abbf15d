use Rattle.drl_compile.proofs.Common.{◌≡◌, ◌++◌, List, map, drop, Cmp, compare_of}
use Rattle.drl_compile.proofs.tests_of.test.Given as goal

abbrev pub invariant-loop-group : goal.invariant-loop-group
invariant-loop-group l = l.choices.items ++ map (λ (group : List Cmp). map (compare_of l.ty l.place.sight) group) (drop l.group-index l.groups) ≡ map (λ (group : List Cmp). map (compare_of l.ty l.place.sight) group) l.groups
