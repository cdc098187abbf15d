use Rattle.join_tests.proofs.{Common.{◌∙◌, sym, ap, List, ◌&&◌, is_some, Named, versions_at}, Versions.{joins_of}}
use Rattle.join_tests.proofs.joins.does_join.Goals as goal

pub returns-then-passes : goal.returns-then-passes
returns-then-passes g c =
    let look = g.F.Facts.map c.args.facts.now in
    c.are_at_hand.ensures
    ∙ ap (λ (names : List Named). is_some (versions_at look names)) c.as_slice.ensures
    ∙ ap (λ b. b && is_some (versions_at look c.args.row.now.facts)) (sym c.if-passes.true)
    ∙ joins_of c.args.pattern.now look c.args.row.now c.args.who c.in-Some.fact.now (sym c.in-Some.ensures) c.passes.result c.passes.ensures

pub returns-else-passes : goal.returns-else-passes
returns-else-passes g c =
    let look = g.F.Facts.map c.args.facts.now in
    c.if-passes.false
    ∙ ap (λ b. b && is_some (versions_at look c.args.row.now.facts)) (sym c.if-passes.false)
    ∙ joins_of c.args.pattern.now look c.args.row.now c.args.who c.in-Some.fact.now (sym c.in-Some.ensures) c.passes.result c.passes.ensures
