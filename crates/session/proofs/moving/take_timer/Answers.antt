use Rattle.session_model.proofs.Timers.{cancelled}
use Rattle.session.proofs.moving.take_timer.Goals as goal

pub returns : goal.returns
returns c other = cancelled c.args.expiries.now c.cancel.new.self c.args.tag.0 c.cancel.result c.cancel.ensures.found c.cancel.ensures.removed c.cancel.ensures.unchanged other
