use Rattle.pattern_gate.proofs.{Common.{arrivals, at_clock}, Moving.{arrivals_still, stands_still, same_candidates, candidate_leaves}}
use Rattle.pattern_gate.proofs.gate.PatternGate.quiet_until.Goals as goal

pub returns-clause-stands : goal.returns-clause-stands
returns-clause-stands c p q s clock stands was is pass quiet =
    stands_still p q s (at_clock s clock) was is (arrivals_still p q s clock was is) c.args.self.now stands (c.quiet_until.ensures.stands (arrivals p q s) s.clock clock stands.stands pass quiet)

pub returns-clause-candidates : goal.returns-clause-candidates
returns-clause-candidates c p q s clock stands was is pass quiet =
    same_candidates p q s (at_clock s clock) was is (arrivals_still p q s clock was is) c.args.self.now stands (c.quiet_until.ensures.inside (arrivals p q s) s.clock clock stands.stands pass quiet)

pub returns-clause-leaves : goal.returns-clause-leaves
returns-clause-leaves c p q s stands is =
    candidate_leaves p q s is c.args.self.now stands c.quiet_until.result (c.quiet_until.ensures.leaves (arrivals p q s) s.clock stands.stands)
