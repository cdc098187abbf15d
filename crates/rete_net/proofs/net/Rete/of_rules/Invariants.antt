use Rattle.rete_net.proofs.Common.{◌≡◌, List, [], length, Condition, IsRunnable, AreGrown, HaveEnds, AreOwnedSoFar}
use Rattle.rete_net.proofs.net.Rete.of_rules.Given as goal

abbrev pub invariant-loop-rule : goal.invariant-loop-rule
invariant-loop-rule l = record {
  count : length l.ends.items ≡ l.rule-index;
  built : IsRunnable l.program → (all : List (List Condition)) × AreGrown l.program l.builder.nodes.items l.builder.origins.items all × HaveEnds all l.ends.items l.program.rules l.rule-index
      × AreOwnedSoFar l.program all l.builder.owners.items l.rule-index [] 0;
}
