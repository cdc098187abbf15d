use Rattle.rete_net.proofs.Common.{◌≡◌, ℕ, take, filter, lent, grouped_facts_at, is_fact_of_type}
use Rattle.rete_net.proofs.pieces.by_type.Given as goal

abbrev pub invariant-loop-fact : goal.invariant-loop-fact
invariant-loop-fact l = (ty : ℕ) → grouped_facts_at l.groups.items ty ≡ filter (is_fact_of_type ty) (lent (take l.fact-index l.kept))
