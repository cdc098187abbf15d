use Rattle.fact_store.proofs.{Common.{facts_of}, Draining.{AreTaken}}
use Rattle.fact_store.proofs.store.FactStore.into_facts.Given as goal

abbrev pub invariant-loop-tag : goal.invariant-loop-tag
invariant-loop-tag l = AreTaken (facts_of l.fn.self) l.facts.items l.tag-iterator.rest.items l.store
