use Rattle.rule_model.proofs.Mature.{mature_is}
use Rattle.rule_model.proofs.laws.maturity_is_decided.Goals as goal

pub returns : goal.returns
returns c p q bound moment ops = mature_is p q bound moment ops
