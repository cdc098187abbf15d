use Rattle.{rete_net.proofs.{Common.{rules, Some, None, FitsSigned, w128}, Timing.{before_first}}, std.proofs.lemmas.Int.{to_z-of_z}}
use Rattle.rete_net.proofs.timers.Timers.first.Goals as goal

pub returns-in-Some : goal.returns-in-Some
returns-in-Some c =
    let fits : FitsSigned w128 c.in-Some.first.0 = search rules in
    simp to_z-of_z (before_first c.args.self.now (Some c.in-Some.first) c.in-Some.ensures.least)

pub returns-in-None : goal.returns-in-None
returns-in-None c = before_first c.args.self.now None c.in-None.ensures.least
