use Rattle.rule_change.proofs.Stepping.{same_fault, alike_steps}
use Rattle.rule_change.proofs.laws.alike_with_steps.Goals as goal

pub returns-clause-faults : goal.returns-clause-faults
returns-clause-faults c = same_fault

pub returns-clause-worlds : goal.returns-clause-worlds
returns-clause-worlds c = alike_steps
