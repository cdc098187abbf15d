use Rattle.join_tests.{proofs.Common.{◌≡◌, ◌++◌, drop, map}, specs.NameKeys.{name_field}}
use Rattle.join_tests.proofs.name_key.fields_of.Given as goal

abbrev pub invariant-loop-key : goal.invariant-loop-key
invariant-loop-key l = l.fields.items ++ map name_field (drop l.key-index l.keys) ≡ map name_field l.keys
