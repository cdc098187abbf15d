use Rattle.drl_compile.proofs.Arguments.{no_argument}
use Rattle.drl_compile.proofs.conditions_of.argument.Goals as goal

pub returns-in-None : goal.returns-in-None
returns-in-None c = no_argument _ c.args.source.now c.args.var.now c.in-None.ensures
