use Rattle.{drl_scope.proofs.Common.{◌≡◌, drop, flat_map, source_of, given_name, with_names}, drl_grammar.specs.declared.condition.CondTree.{CondTree}}
use Rattle.drl_scope.proofs.entries.with_conditions.Given as goal

abbrev pub invariant-loop-condition : goal.invariant-loop-condition
invariant-loop-condition l = with_names l.known (flat_map (λ (c : CondTree). given_name (source_of c).entry) (drop l.condition-index l.conditions)) ≡ with_names l.fn.known (flat_map (λ (c : CondTree). given_name (source_of c).entry) l.conditions)
