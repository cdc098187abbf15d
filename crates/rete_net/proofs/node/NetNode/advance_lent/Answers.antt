use Rattle.rete_net.{proofs.Common.{◌≡◌, ◌∙◌, sym, subst, List, Named, Row, Candidates, NodeStands, condition_of, lent}, specs.Lending.{IsFoundAnew}}
use Rattle.{rete_net.proofs.Lending.{turn_step}, std.proofs.Common.{option_map}, candidate_source.specs.Doors.{source_candidates}}
use Rattle.beta_node.specs.Lending.{with_candidates, NodeTakes}
use Rattle.rete_net.proofs.node.NetNode.advance_lent.Goals as goal

pub returns-clause-anew : goal.returns-clause-anew
returns-clause-anew g c =
    let anew = IsFoundAnew c.turn_lent.new.self.node (g.F.Facts.map c.args.facts.now) c.args.place in
    subst (λ (own : Candidates). anew c.args.left.now.come (record c.args.source.now { own = own }) c.find_anew.new.source) (c.in_ok-delta.ensures.own ∙ c.candidates.ensures.value)
    (subst (λ (rows : List Row). anew rows (record c.args.source.now { own = c.turn_lent.new.own }) c.find_anew.new.source) c.as_slice-came.ensures c.in_ok-find_anew.ensures)

pub returns-clause-step : goal.returns-clause-step
returns-clause-step g c was sourced reached turns =
    let p = c.args.happening.now.program.now in
    let look = g.F.Facts.map c.args.facts.now in
    let old = c.args.self.now in
    let new = c.turn_lent.new.self in
    let told = c.in_ok-delta.ensures in
    let value = c.candidates.ensures.value in
    let gone = c.args.handed.now.gone.items in
    let come = c.args.handed.now.come.items in
    turn_step p look (lent c.args.happening.now.gone.now) (option_map (λ f. f.now) c.args.happening.now.come) c.args.happening.now.moment.now old new was c.args.source.now c.find_anew.new.source c.args.place
    c.args.left.now c.in_ok-delta.delta gone come told.parent told.condition sourced.alike sourced.keeps turns reached (returns-clause-anew g c)
    (λ right takes world s next rows rows_now forgotten stands at turn.
    subst (λ (own : Candidates). NodeStands p (with_candidates own new.node) look next rows_now forgotten) (told.own ∙ value)
    (told.stands (source_candidates was) right (subst (λ (own : Candidates). NodeTakes (with_candidates own old.node) (source_candidates was) look right gone come) (sym value) takes) world s next rows rows_now forgotten stands at turn))
    (λ right takes world s next rows rows_now forgotten stands at turn.
    told.difference (source_candidates was) right (subst (λ (own : Candidates). NodeTakes (with_candidates own old.node) (source_candidates was) look right gone come) (sym value) takes) world s next rows rows_now forgotten stands at turn)
