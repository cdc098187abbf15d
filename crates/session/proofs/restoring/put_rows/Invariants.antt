use Rattle.session.proofs.Common.{◌≡◌, NoneGo, AreAdding}
use Rattle.session.proofs.restoring.put_rows.Given as goal

abbrev pub invariant-loop-change : goal.invariant-loop-change
invariant-loop-change l = record {
  saliences : l.agenda.saliences ≡ l.fn.agenda.saliences;
  adding : NoneGo l.fn.changes.items → AreAdding l.fn.agenda l.fn.changes.items l.agenda l.change-iterator.rest.items;
}
