use Rattle.std.proofs.lemmas.Result.{IfOk-weaker}
use Rattle.desk_c.proofs.state.feed_any.Goals as goal

pub returns-in-Text-clause-fed : goal.returns-in-Text-clause-fed
returns-in-Text-clause-fed c = IfOk-weaker c.feed.result _ _ (λ on fed course before out has. fed course before out (rw c.in-Text.is at has)) c.feed.ensures.fed

pub returns-in-Objects-clause-fed : goal.returns-in-Objects-clause-fed
returns-in-Objects-clause-fed c =
    IfOk-weaker c.feed-in-Objects.result _ _ (λ on fed course before out has. fed course before out (rw c.in-Objects.is at has)) c.feed-in-Objects.ensures.fed
