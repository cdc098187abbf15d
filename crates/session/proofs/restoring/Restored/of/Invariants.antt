use Rattle.session.proofs.Common.{AreHeld, ArePut}
use Rattle.session.proofs.restoring.Restored.of.Given as goal

abbrev pub invariant-loop-fact : goal.invariant-loop-fact
invariant-loop-fact l = record {
  put : ArePut l.fn.facts.items l.fact-iterator.rest.items l.restored.facts;
  held : AreHeld l.setting.program l.setting.lives l.restored.facts l.restored.expiries l.restored.retention;
}
