use Rattle.retention.proofs.Past.{past_law}
use Rattle.retention.proofs.laws.past_answers_the_old_events.Goals as goal

pub returns : goal.returns
returns c = past_law
