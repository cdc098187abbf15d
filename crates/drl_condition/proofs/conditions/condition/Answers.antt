use Rattle.drl_condition.proofs.{Common.{arith, IfOk-weaker, whole_found, whole_none}, ConditionLaws.{condition_exact}}
use Rattle.drl_condition.proofs.conditions.condition.Goals as goal

pub returns-clause-found : goal.returns-clause-found
returns-clause-found c = IfOk-weaker c.whole.result _ _ (whole_found condition_exact c.args.tokens.now) c.whole.ensures

pub returns-clause-none : goal.returns-clause-none
returns-clause-none c = IfOk-weaker c.whole.result _ _ (whole_none (omega arith) condition_exact c.args.tokens.now) c.whole.ensures
