use Rattle.subrules.proofs.Common.{◌≡◌, ◌++◌, ◌+◌, length, numbered_rules}
use Rattle.subrules.proofs.rules.numbered.Given as goal

abbrev pub invariant-loop-way : goal.invariant-loop-way
invariant-loop-way l = record {
  made : l.rules.items ++ numbered_rules l.rule l.number l.way-iterator.rest.items ≡ numbered_rules l.rule 1 l.fn.ways.items;
  counts : l.number + length l.way-iterator.rest.items ≡ 1 + length l.fn.ways.items;
}
