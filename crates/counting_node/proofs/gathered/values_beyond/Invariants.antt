use Rattle.counting_node.proofs.{Common.{◌≡◌, ◌++◌, drop}, Leaving.{leaves}}
use Rattle.counting_node.proofs.gathered.values_beyond.Given as goal

abbrev pub invariant-loop-value : goal.invariant-loop-value
invariant-loop-value l = l.rest.items ++ leaves (drop l.value-index l.values) (drop l.next l.part) ≡ leaves l.values l.part
