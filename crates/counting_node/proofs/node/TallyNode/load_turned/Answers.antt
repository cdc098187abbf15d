use Rattle.counting_node.proofs.{Common.{◌∙◌, refl, true, has, left_at, shown, extra_for, any_name}, Loading.{loaded}, Turning.{steps_same}}
use Rattle.counting_node.proofs.node.TallyNode.load_turned.Goals as goal

pub returns-clause-difference : goal.returns-clause-difference
returns-clause-difference g c =
    let rows = shown g.T.Tally.origin g.T.Tally.gives (g.T.Tally.output c.args.plan.now) in
    let old = rows c.args.self.now.memories (g.F.Facts.map c.args.facts.now) in
    c.in_ok-delta.ensures old (rows c.rows_load.new.self.memories (g.F.Facts.map c.args.facts.now)) (c.in_ok-rows_load.ensures.turned.leads old (c.none-change.ensures old))

pub returns-clause-laden : goal.returns-clause-laden
returns-clause-laden g c sorted world alike r comes absent =
    let look = g.F.Facts.map c.args.facts.now in
    let m = c.args.self.now.memories in
    let holds = g.T.Tally.holds c.args.plan.now in
    let keeps = c.in_ok-rows_load.ensures.turned.keeps in
    loaded holds (g.T.Tally.laden c.args.plan.now) look m m c.rows_load.new.self.memories (extra_for c.args.extras.now) (has c.args.left.now) _ r world refl keeps.names absent comes
    (steps_same holds look true any_name (left_at m look r) (left_at m look r) refl) (c.in_ok-rows_load.ensures.turned.tallies sorted world (λ x e. alike x (keeps.names x ∙ e)) r)
