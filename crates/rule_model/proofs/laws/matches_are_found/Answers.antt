use Rattle.rule_model.proofs.RuleOf.{in_has, has_in}
use Rattle.rule_model.proofs.laws.matches_are_found.Goals as goal

pub returns : goal.returns
returns c ms m = (in_has ms m, has_in m ms)
