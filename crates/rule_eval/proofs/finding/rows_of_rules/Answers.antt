use Rattle.rule_eval.proofs.{Common.{sym, subst, HaveOperators, UseOperators}, Operators.{operators_at}}
use Rattle.rule_eval.proofs.finding.rows_of_rules.Goals as goal

pub rows_of-requires : goal.rows_of-requires
rows_of-requires c =
    subst HaveOperators (sym c.as_slice.ensures)
    (operators_at c.as_slice-rule-items.result.now c.loop-rule.rule-index c.rule-item.result (subst UseOperators (sym c.as_slice-rule-items.ensures) c.requires) c.loop-rule-test.true c.rule-item.is)
