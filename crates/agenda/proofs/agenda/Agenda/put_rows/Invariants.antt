use Rattle.agenda.proofs.Common.{◌≡◌, ◌&&◌, ◌||◌, ◌==◌, has, has_match, Match}
use Rattle.agenda.proofs.agenda.Agenda.put_rows.Given as goal

abbrev pub invariant-loop-row : goal.invariant-loop-row
invariant-loop-row l = record {
  saliences : l.self.saliences ≡ l.initial.self.saliences;
  fired : l.self.fired ≡ l.initial.self.fired;
  pending : (m : Match) → (has_match l.self.pending m || (l.rule.0 == m.rule.0 && has l.row-iterator.rest.items m.row)) ≡ (has_match l.initial.self.pending m || (l.rule.0 == m.rule.0 && has l.fn.rows m.row));
}
