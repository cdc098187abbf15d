use Rattle.{std.proofs.Common.{map, ◌++◌, ◌≡◌}, rule_change.specs.Changed.{moved_fact}}
use Rattle.image_making.proofs.facts.moved_facts.Given as goal

abbrev pub invariant-loop-fact : goal.invariant-loop-fact
invariant-loop-fact l = l.moved.items ++ map (moved_fact l.old l.new) l.fact-iterator.rest.items ≡ map (moved_fact l.old l.new) l.fn.facts.items
