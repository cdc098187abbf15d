use Rattle.{answer_lines.specs.declared.lines.Detail.TheVariants.{Brief}, session_model.proofs.Acting.{fires_lawful}}
use Rattle.session_model.proofs.laws.firings_keep_worlds_lawful.Goals as goal

pub returns : goal.returns
returns c p w lines next runnable l e = fires_lawful Brief p w lines next runnable l e
