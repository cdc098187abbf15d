use Rattle.{answer_lines.specs.declared.lines.Detail.TheVariants.{Brief}, session_model.proofs.Asking.{gives_lawful}}
use Rattle.session_model.proofs.laws.changes_keep_worlds_lawful.Goals as goal

pub returns : goal.returns
returns c p w change runnable l = gives_lawful Brief p w change runnable l
