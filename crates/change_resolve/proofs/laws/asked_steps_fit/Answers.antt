use Rattle.change_resolve.proofs.Fitting.{asked_fits}
use Rattle.change_resolve.proofs.laws.asked_steps_fit.Goals as goal

pub returns : goal.returns
returns c p begun present change step some e = asked_fits p begun present change step some e
