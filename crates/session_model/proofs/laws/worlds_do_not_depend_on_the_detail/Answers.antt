use Rattle.{std.proofs.Common.{ap}, session_model.proofs.Detailed.{fires_alike, gives_briefly}}
use Rattle.session_model.proofs.laws.worlds_do_not_depend_on_the_detail.Goals as goal

pub returns-clause-changes : goal.returns-clause-changes
returns-clause-changes c p w change = ap (λ z. z.1) (gives_briefly p w change)

pub returns-clause-firings : goal.returns-clause-firings
returns-clause-firings c p w = fires_alike p w
