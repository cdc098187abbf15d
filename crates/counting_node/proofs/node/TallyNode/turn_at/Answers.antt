use Rattle.counting_node.proofs.Common.{◌∙◌, sym, ap, refl, eq_by_cmp, row_cmp, leads_alike, left_at, has_left, has_right, keeps_then, shown, output_some}
use Rattle.counting_node.proofs.{Common.{AllTurned}, Parts.{unmoved}, Turning.{shown_from, steps_one, steps_absent, absent, exchanged, was_there}}
use Rattle.{counting_node.proofs.Turning.{exchanged_shown}, std.proofs.lemmas.Result.{on_ok_weaker}}
use Rattle.counting_node.proofs.node.TallyNode.turn_at.Goals as goal

pub returns-then-not-has_left-clause-turned : goal.returns-then-not-has_left-clause-turned
returns-then-not-has_left-clause-turned g c =
    let look = g.F.Facts.map c.args.facts.now in
    let m = c.args.self.now.memories in
    let holds = g.T.Tally.holds c.args.plan.now in
    let turning = eq_by_cmp row_cmp c.args.row.now in
    unmoved g.T.Tally.origin g.T.Tally.gives (g.T.Tally.output c.args.plan.now) (AllTurned holds look c.args.comes c.args.who turning) m m look (has_left m look) (has_right m look) c.args.change.now
    (record { pattern = refl; rows = λ r. refl; names = λ x. refl; agrees = λ before. before }) (λ r. refl)
    (λ world alike r. steps_absent holds world c.args.comes c.args.who (turning r) (left_at m look r) (absent m look c.args.row.now (sym c.has_left.ensures ∙ c.if-not-has_left.true) r))

pub returns-in-Ok-exchange_left-clause-turned : goal.returns-in-Ok-exchange_left-clause-turned
returns-in-Ok-exchange_left-clause-turned g c =
    let look = g.F.Facts.map c.args.facts.now in
    let m = c.args.self.now.memories in
    let next = c.exchange_left.new.self in
    let last = c.exchange_left-in-Ok.new.self in
    let row = c.args.row.now in
    let tally = c.in-Ok.tally in
    let now = c.in_ok-now-in-Ok.now in
    let before = c.in-Ok.ensures.before in
    let taken = c.in-Ok.ensures.left in
    let put = c.in-Ok-exchange_left.ensures.left in
    let keeps = c.in-Ok.ensures.keeps in
    let output = g.T.Tally.output c.args.plan.now in
    on_ok_weaker c.note.result
    (λ noted. record {
      keeps = keeps_then m next last look _ _ _ _ _ _ keeps c.in-Ok-exchange_left.ensures.keeps keeps.rows keeps.names;
      tallies = λ world alike r.
          steps_one (g.T.Tally.holds c.args.plan.now) world c.args.comes c.args.who (eq_by_cmp row_cmp row r) (left_at m look r) (left_at last look r) tally now
          (was_there m next last look row tally c.none-blank.result now before taken put r) (exchanged m next last look row tally c.none-blank.result now before taken put r) (c.in_ok-now-in-Ok.ensures world alike);
      leads = λ old leads.
          leads_alike old _ _ _ _
          (noted old (shown g.T.Tally.origin g.T.Tally.gives output m look) leads
          (shown_from g.T.Tally.origin g.T.Tally.gives output m look row c.output-was.result (ap (output_some (output look row)) before ∙ sym c.output-was.ensures)))
          (exchanged_shown m next last look row tally c.none-blank.result now before taken put g.T.Tally.origin g.T.Tally.gives output c.output-is.result c.output-is.ensures);
    })
    c.note.ensures
