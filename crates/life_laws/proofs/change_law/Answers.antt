use Rattle.life_laws.proofs.Laws.{of_rule, of_prefix}
use Rattle.life_laws.proofs.change_law.Goals as goal

pub returns-clause-of_rule : goal.returns-clause-of_rule
returns-clause-of_rule c = of_rule

pub returns-clause-of_prefix : goal.returns-clause-of_prefix
returns-clause-of_prefix c = of_prefix
