use Rattle.drl_compile.proofs.Common.{◌≡◌, ◌++◌, drop, flat_map, time_tests_in}
use Rattle.drl_compile.proofs.tests_of.time_tests.Given as goal

abbrev pub invariant-loop-part : goal.invariant-loop-part
invariant-loop-part l = l.tests.items ++ flat_map (time_tests_in l.place.sight) (drop l.part-index l.parts) ≡ flat_map (time_tests_in l.place.sight) l.parts
