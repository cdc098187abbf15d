use Rattle.rete_net.proofs.{Common.{subst, and_parts, AreWithin}, Ranged.{within_both}}
use Rattle.rete_net.proofs.bounds.both.Goals as goal

pub returns-then-first-second : goal.returns-then-first-second
returns-then-first-second c pass also one two f passes =
    let both = and_parts (pass f) (also f) passes in
    within_both c.in-Some-Some.first c.in-Some-Some.second c.meet.result c.if-first-second.true c.meet.ensures.field c.meet.ensures.least c.meet.ensures.most f
    (subst (λ range. AreWithin range pass) c.in-Some-Some.is-0 one f both.0) (subst (λ range. AreWithin range also) c.in-Some-Some.is-1 two f both.1)
