use Rattle.page_map.proofs.Common.{◌≡◌, ◌+◌, length, AreParts, map_of}
use Rattle.page_map.proofs.moves.grow_to.Given as goal

abbrev pub invariant-loop-count : goal.invariant-loop-count
invariant-loop-count l = record {
  are : AreParts l.run l.tree;
  same : map_of l.run l.tree ≡ map_of l.initial.run l.initial.tree;
  first : l.run.first ≡ l.initial.run.first;
  reached : l._count ≡ l.run.first + length l.run.directories.items;
}
