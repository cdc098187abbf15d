use Rattle.beta_join.proofs.Common.{made}
use Rattle.beta_join.proofs.join.BetaJoin.advance.Goals as goal

pub returns-then-changes_nothing-2-clause-difference : goal.returns-then-changes_nothing-2-clause-difference
returns-then-changes_nothing-2-clause-difference g c =
    let rows = made c.args.self.now.memories (g.F.Facts.map c.args.facts.now) in
    c.in_ok-delta.ensures rows rows (c.none.ensures rows)
