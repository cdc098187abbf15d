use Rattle.window_gate.proofs.{Common.{Some, None, FitsSigned, w64, rules, to_z-of_z}, Quiet.{time_kept, time_same, one_leaves, first_least}}
use Rattle.window_gate.proofs.time_window.TimeWindow.first_leaving.Goals as goal

pub returns-in-Some-clause-keeps : goal.returns-in-Some-clause-keeps
returns-in-Some-clause-keeps c arrivals was now keeps differ pass quiet =
    let fits : FitsSigned w64 c.in-Some.first.0 = search rules in
    time_kept c.args.self.now arrivals was now pass keeps differ (Some c.in-Some.first.0) (simp to_z-of_z at quiet) (first_least c.args.self.now (Some c.in-Some.first) c.in-Some.ensures.least)

pub returns-in-Some-clause-inside : goal.returns-in-Some-clause-inside
returns-in-Some-clause-inside c arrivals was now keeps differ pass quiet =
    let fits : FitsSigned w64 c.in-Some.first.0 = search rules in
    time_same c.args.self.now arrivals was now pass keeps differ (Some c.in-Some.first.0) (simp to_z-of_z at quiet) (first_least c.args.self.now (Some c.in-Some.first) c.in-Some.ensures.least)

pub returns-in-Some-clause-leaves : goal.returns-in-Some-clause-leaves
returns-in-Some-clause-leaves c arrivals was keeps =
    let fits : FitsSigned w64 c.in-Some.first.0 = search rules in
    simp to_z-of_z (one_leaves c.args.self.now arrivals was keeps c.in-Some.first.0 c.in-Some.first.1 c.in-Some.ensures.waits)

pub returns-in-None-clause-keeps : goal.returns-in-None-clause-keeps
returns-in-None-clause-keeps c arrivals was now keeps differ pass quiet = time_kept c.args.self.now arrivals was now pass keeps differ None tt (first_least c.args.self.now None c.in-None.ensures.least)

pub returns-in-None-clause-inside : goal.returns-in-None-clause-inside
returns-in-None-clause-inside c arrivals was now keeps differ pass quiet = time_same c.args.self.now arrivals was now pass keeps differ None tt (first_least c.args.self.now None c.in-None.ensures.least)
