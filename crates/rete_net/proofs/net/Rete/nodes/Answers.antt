use Rattle.rete_net.proofs.{Common.{◌≡◌, length, sym, subst, rules, CountsFronts}, Counted.{counted}}
use Rattle.rete_net.proofs.net.Rete.nodes.Goals as goal

pub returns-clause-fronts : goal.returns-clause-fronts
returns-clause-fronts c p net =
    let many : c.len.result ≡ length c.args.self.now.nodes.items = search rules in
    subst (CountsFronts p) (sym many) (counted p c.args.self.now.nodes.items c.args.self.now.ends.items net)
