use Rattle.counting_node.proofs.{Common.{◌∙◌, sym, shown}, Stepping.{no_step}}
use Rattle.counting_node.proofs.node.TallyNode.advance.Goals as goal

pub returns-then-changes_nothing-2-clause-tallies : goal.returns-then-changes_nothing-2-clause-tallies
returns-then-changes_nothing-2-clause-tallies g c =
    no_step (g.T.Tally.holds c.args.plan.now) (g.F.Facts.map c.args.facts.now) c.args.self.now.memories c.args.left.now c.args.right.now (sym c.changes_nothing.ensures ∙ c.if-changes_nothing.true)

pub returns-then-changes_nothing-2-clause-difference : goal.returns-then-changes_nothing-2-clause-difference
returns-then-changes_nothing-2-clause-difference g c =
    let rows = shown g.T.Tally.origin g.T.Tally.gives (g.T.Tally.output c.args.plan.now) c.args.self.now.memories (g.F.Facts.map c.args.facts.now) in
    c.in_ok-delta.ensures rows rows (c.none.ensures rows)
