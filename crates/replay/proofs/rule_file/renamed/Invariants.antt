use Rattle.replay.proofs.Common.{◌≡◌, ◌++◌, length, drop, renamed}
use Rattle.replay.proofs.rule_file.renamed.Given as goal

abbrev pub invariant-loop-rule : goal.invariant-loop-rule
invariant-loop-rule l = l.named.items ++ renamed (drop (length l.named.items) l.titles) l.rule-iterator.rest.items ≡ renamed l.titles l.fn.rules.items
