use Rattle.counting_node.proofs.{Common.{◌∙◌, sym, ap, eq_by_cmp, row_cmp, leads_alike, shown, output_some, AllDropped}, Parts.{unmoved}, Turning.{shown_from}}
use Rattle.counting_node.proofs.Turning.{gone_shown, untouched}
use Rattle.counting_node.proofs.node.TallyNode.row_leaves.Goals as goal

pub returns-in-None-clause-turned : goal.returns-in-None-clause-turned
returns-in-None-clause-turned g c =
    let look = g.F.Facts.map c.args.facts.now in
    let m = c.args.self.now.memories in
    let n = c.take_left.new.self in
    unmoved g.T.Tally.origin g.T.Tally.gives (g.T.Tally.output c.args.plan.now) (AllDropped look (eq_by_cmp row_cmp c.args.row.now)) m n look _ _ c.args.change.now c.take_left.ensures.keeps
    (untouched m n look c.args.row.now (sym c.take_left.ensures.taken ∙ c.in-None.is) c.take_left.ensures.left) c.take_left.ensures.left

pub returns-in_ok-note-in-Some-clause-turned : goal.returns-in_ok-note-in-Some-clause-turned
returns-in_ok-note-in-Some-clause-turned g c =
    let look = g.F.Facts.map c.args.facts.now in
    let m = c.args.self.now.memories in
    let row = c.args.row.now in
    let output = g.T.Tally.output c.args.plan.now in
    record {
      keeps = c.take_left.ensures.keeps;
      tallies = c.take_left.ensures.left;
      leads = λ old leads.
          leads_alike old _ _ _ _
          (c.in_ok-note-in-Some.ensures old (shown g.T.Tally.origin g.T.Tally.gives output m look) leads
          (shown_from g.T.Tally.origin g.T.Tally.gives output m look row c.output-was.result (ap (output_some (output look row)) (sym c.take_left.ensures.taken ∙ c.in-Some.is) ∙ sym c.output-was.ensures)))
          (gone_shown m c.take_left.new.self look row g.T.Tally.origin g.T.Tally.gives output c.take_left.ensures.left);
    }
