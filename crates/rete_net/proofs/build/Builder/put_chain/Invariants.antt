use Rattle.rete_net.proofs.Common.{◌≡◌, ◌≤◌, ◌++◌, List, [], length, take, true, Some, slice_get, list_all, Condition, has_window, AreGrown, IsParentNode}
use Rattle.rete_net.proofs.Common.{AreOwnedSoFar}
use Rattle.rete_net.proofs.build.Builder.put_chain.Given as goal

abbrev pub invariant-loop-condition : goal.invariant-loop-condition
invariant-loop-condition l =
    (all : List (List Condition)) → AreGrown l.program l.fn.self.nodes.items l.fn.self.origins.items all
    → slice_get l.program.rules l.fn.place.0 ≡ Some l.rule → length l.rule.conditions ≤ 8 → list_all (has_window l.program) l.rule.conditions ≡ true
    → AreOwnedSoFar l.program all l.fn.self.owners.items l.fn.place.0 [] 0
    → (more : List (List Condition)) × AreGrown l.program l.self.nodes.items l.self.origins.items (all ++ more) × IsParentNode (all ++ more) l.last (take l.condition-index l.rule.conditions)
    × AreOwnedSoFar l.program (all ++ more) l.self.owners.items l.fn.place.0 l.rule.conditions l.condition-index × (l.owner.rule.0 ≡ l.fn.place.0) × (l.owner.condition ≡ l.condition-index)
