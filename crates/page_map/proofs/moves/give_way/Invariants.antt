use Rattle.page_map.proofs.Common.{◌≡◌, AreParts, map_of}
use Rattle.page_map.proofs.moves.give_way.Given as goal

abbrev pub invariant-loop-count : goal.invariant-loop-count
invariant-loop-count l = record {
  are : AreParts l.run l.tree;
  same : map_of l.run l.tree ≡ map_of l.initial.run l.initial.tree;
}
