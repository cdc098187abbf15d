use Rattle.rule_eval.proofs.Common.{◌≡◌, ◌++◌, drop, filter, candidates, lent, over, is_candidate}
use Rattle.rule_eval.proofs.finder.Finder.candidates.Given as goal

abbrev pub invariant-loop-fact : goal.invariant-loop-fact
invariant-loop-fact l =
    lent l.found.items ++ filter (is_candidate l.self.program.now l.pattern (over (lent l.facts) l.self.moment.now)) (lent (drop l.fact-index l.facts))
    ≡ candidates l.self.program.now l.pattern (over (lent l.facts) l.self.moment.now)
