use Rattle.session_model.proofs.Holding.{held_is_kept, old_held_is_named}
use Rattle.session.proofs.laws.a_session_holds_what_is_kept.Goals as goal

pub returns-clause-kept : goal.returns-clause-kept
returns-clause-kept c s w runs st f = held_is_kept s.setting s.memory.value s.state.value runs w st f

pub returns-clause-old : goal.returns-clause-old
returns-clause-old c s w runs st f n finite past e = old_held_is_named s.setting s.memory.value s.state.value runs w st f n finite past e
