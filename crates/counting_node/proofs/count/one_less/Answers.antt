use Rattle.counting_node.proofs.{Common.{sym, subst, less_one, IsNumber}, Counting.{number_less}}
use Rattle.counting_node.proofs.count.one_less.Goals as goal

pub returns : goal.returns
returns c set who is present = subst (IsNumber (less_one set who)) (sym c.saturating_sub.ensures) (number_less set c.args.count who is present)
