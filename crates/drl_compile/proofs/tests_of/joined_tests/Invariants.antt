use Rattle.drl_compile.proofs.Common.{◌≡◌, ◌++◌, drop, filter, flat_map, tests_in, is_joined}
use Rattle.drl_compile.proofs.tests_of.joined_tests.Given as goal

abbrev pub invariant-loop-part : goal.invariant-loop-part
invariant-loop-part l = l.tests.items ++ flat_map (tests_in l.ty l.place.sight) (filter is_joined (drop l.part-index l.parts)) ≡ flat_map (tests_in l.ty l.place.sight) (filter is_joined l.parts)
