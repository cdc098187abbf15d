use Rattle.pattern_gate.proofs.Common.{◌≡◌, ◌∙◌, sym, subst, ℤ, ◌<ℤ◌, true, false, IfSome, option_map, Bor, to_z-of_z, Fact, lent, arrivals, not-false}
use Rattle.pattern_gate.proofs.{Common.{not-true}, Moving.{same_arrivals, stands_still, same_candidates, leaves_by}}
use Rattle.pattern_gate.proofs.gate.PatternGate.is_still.Goals as goal

pub returns-then-is_before-clause-meant : goal.returns-then-is_before-clause-meant
returns-then-is_before-clause-meant c told = sym c.is_one_meant.ensures ∙ not-true c.is_one_meant.result told

pub returns-then-is_before-clause-stands : goal.returns-then-is_before-clause-stands
returns-then-is_before-clause-stands c told p s next stands moves at =
    let q = c.args.pattern.now in
    let fits = c.ranges.clock in
    let quiet : IfSome c.quiet_until.result (λ moment. c.args.clock <ℤ moment) = simp to_z-of_z at (c.is_before.ensures.0) c.if-is_before.true in
    let still = subst (λ (now : ℤ). IfSome c.quiet_until.result (λ moment. now <ℤ moment)) (sym at) quiet in
    let same = same_arrivals p q s next (lent c.args.gone.now) (option_map (λ (f : Bor Fact). f.now) c.args.come) moves (sym c.is_one_meant.ensures ∙ not-true c.is_one_meant.result told) in
    stands_still p q s next moves.before moves.after same c.args.self.now stands (c.quiet_until.ensures.stands (arrivals p q s) s.clock next.clock stands.stands moves.clock still)

pub returns-then-is_before-clause-candidates : goal.returns-then-is_before-clause-candidates
returns-then-is_before-clause-candidates c told p s next stands moves at =
    let q = c.args.pattern.now in
    let fits = c.ranges.clock in
    let quiet : IfSome c.quiet_until.result (λ moment. c.args.clock <ℤ moment) = simp to_z-of_z at (c.is_before.ensures.0) c.if-is_before.true in
    let still = subst (λ (now : ℤ). IfSome c.quiet_until.result (λ moment. now <ℤ moment)) (sym at) quiet in
    let same = same_arrivals p q s next (lent c.args.gone.now) (option_map (λ (f : Bor Fact). f.now) c.args.come) moves (sym c.is_one_meant.ensures ∙ not-true c.is_one_meant.result told) in
    same_candidates p q s next moves.before moves.after same c.args.self.now stands (c.quiet_until.ensures.inside (arrivals p q s) s.clock next.clock stands.stands moves.clock still)

pub returns-then-is_before-clause-leaves : goal.returns-then-is_before-clause-leaves
returns-then-is_before-clause-leaves c told none p s stands is = absurd (let torn : true ≡ false = sym (not-false c.is_one_meant.result told) ∙ c.is_one_meant.ensures ∙ none in cc)

pub returns-else-is_before-clause-leaves : goal.returns-else-is_before-clause-leaves
returns-else-is_before-clause-leaves c told none p s stands is =
    let q = c.args.pattern.now in
    let fits = c.ranges.clock in
    let late : IfSome c.quiet_until.result (λ moment. c.args.clock <ℤ moment) → true ≡ false =
    λ before. sym (simp to_z-of_z at (c.is_before.ensures.1) before) ∙ c.if-is_before.false in
    leaves_by p q s is c.args.self.now stands c.quiet_until.result c.args.clock (λ before. let torn = late before in cc) (c.quiet_until.ensures.leaves (arrivals p q s) s.clock stands.stands)
