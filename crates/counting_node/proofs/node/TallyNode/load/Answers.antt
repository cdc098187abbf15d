use Rattle.counting_node.proofs.{Common.{◌∙◌, ap, refl, true, ◌||◌, has, keeps_then, extra_for, shown}, Loading.{loaded}}
use Rattle.counting_node.proofs.node.TallyNode.load.Goals as goal

pub returns-clause-kept : goal.returns-clause-kept
returns-clause-kept g c =
    let look = g.F.Facts.map c.args.facts.now in
    let came = c.in_ok-names_come.ensures.keeps in
    keeps_then c.args.self.now.memories c.names_come.new.self.memories c.rows_load.new.self.memories look _ _ _ _ _ _ came c.in_ok-rows_load.ensures.turned.keeps
    (λ r. ap (λ b. b || has c.args.left.now r) (came.rows r)) came.names

pub returns-clause-laden : goal.returns-clause-laden
returns-clause-laden g c sorted world alike r comes absent =
    let look = g.F.Facts.map c.args.facts.now in
    let m = c.args.self.now.memories in
    let n = c.names_come.new.self.memories in
    let z = c.rows_load.new.self.memories in
    loaded (g.T.Tally.holds c.args.plan.now) (g.T.Tally.laden c.args.plan.now) look m n z (extra_for c.args.extras.now) (has c.args.left.now) _ r world c.in_ok-names_come.ensures.keeps.pattern c.in_ok-rows_load.ensures.turned.keeps.names absent comes
    (c.in_ok-names_come.ensures.tallies look (λ x. true) (λ x e. refl) (λ x e. refl) r)
    (c.in_ok-rows_load.ensures.turned.tallies sorted world (λ x e. alike x (c.in_ok-rows_load.ensures.turned.keeps.names x ∙ e)) r)

pub returns-clause-difference : goal.returns-clause-difference
returns-clause-difference g c =
    let old = shown g.T.Tally.origin g.T.Tally.gives (g.T.Tally.output c.args.plan.now) c.args.self.now.memories (g.F.Facts.map c.args.facts.now) in
    c.in_ok-delta.ensures old (shown g.T.Tally.origin g.T.Tally.gives (g.T.Tally.output c.args.plan.now) c.rows_load.new.self.memories (g.F.Facts.map c.args.facts.now))
    (c.in_ok-rows_load.ensures.turned.leads old (c.in_ok-names_come.ensures.leads old (c.none-change.ensures old)))
