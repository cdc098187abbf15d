use Rattle.session_model.proofs.Detailed.{fires_briefly, gives_briefly}
use Rattle.session_model.proofs.laws.answers_in_full_say_those_in_brief.Goals as goal

pub returns-clause-changes : goal.returns-clause-changes
returns-clause-changes c p w change = gives_briefly p w change

pub returns-clause-firings : goal.returns-clause-firings
returns-clause-firings c p w l = fires_briefly p w l
