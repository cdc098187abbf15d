use Rattle.rete_net.proofs.{Common.{◌≡◌, subst, to_z, of_z, to_z-of_z, w64, IsTrue, IsBefore}, Seen.{fits_low, quiet_stands, quiet_rows}}
use Rattle.rete_net.proofs.net.Rete.is_quiet.Goals as goal

before_due : (c : goal.After-is_before) → IsTrue c.is_before.result → IsBefore c.args.self.now.quiet_until c.args.clock
before_due c told =
    let whole : to_z w64 (of_z w64 c.args.clock) ≡ c.args.clock = to_z-of_z c.ranges.clock in
    subst (IsBefore c.args.self.now.quiet_until) whole (c.is_before.ensures.0 told)

pub returns-clause-stands : goal.returns-clause-stands
returns-clause-stands c told p s forgotten stands later kept = quiet_stands p c.args.self.now s forgotten c.args.clock stands later (fits_low c.args.clock c.ranges.clock) (before_due c told) kept

pub returns-clause-rows : goal.returns-clause-rows
returns-clause-rows c told p s forgotten stands later kept = quiet_rows p c.args.self.now s forgotten c.args.clock stands later (fits_low c.args.clock c.ranges.clock) (before_due c told) kept
