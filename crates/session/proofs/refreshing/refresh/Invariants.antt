use Rattle.session.proofs.Common.{ℕ, ◌<◌, List, In, Row, Program, Rule, RuleChange, AreBetween, is_tag_among, HasLeft, AreOfRules, AreAhead}
use Rattle.session.proofs.refreshing.refresh.Given as goal

abbrev pub invariant-loop-change : goal.invariant-loop-change
invariant-loop-change l = record {
  agenda : (p : Program) (old new : Rule → List Row) → AreBetween p old new l.fn.changes.items → AreAhead l.fn.changes.items l.change-iterator.rest.items l.fn.agenda l.agenda;
  left : HasLeft l.fn.agenda l.agenda (is_tag_among l.left.items);
  rules : (rules : ℕ) → ((c : RuleChange) → In c l.fn.changes.items → c.rule.0 < rules) → AreOfRules rules l.fn.agenda.pending
      → ((c : RuleChange) → In c l.change-iterator.rest.items → c.rule.0 < rules) × AreOfRules rules l.agenda.pending;
}
