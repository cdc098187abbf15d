use Rattle.rete_net.{proofs.{Common.{◌∙◌, sym, subst, Candidates, Laden, IsDifference, node_rows, extra_for}, Stocked.{stocked}}, specs.Lending.{IsFoundAnew}}
use Rattle.{candidate_source.specs.Doors.{source_candidates}, beta_node.specs.Lending.{with_candidates, NodeHas}}
use Rattle.rete_net.proofs.node.NetNode.load_lent.Goals as goal

pub returns-clause-anew : goal.returns-clause-anew
returns-clause-anew g c =
    subst (λ (own : Candidates). IsFoundAnew c.fill_lent.new.self.node (g.F.Facts.map c.args.facts.now) c.args.place c.args.given.now.rows.now (record c.args.source.now { own = own }) c.find_anew.new.source)
    (c.in_ok-delta.ensures.own ∙ c.candidates.ensures.value) c.in_ok-find_anew.ensures

pub returns-clause-loads : goal.returns-clause-loads
returns-clause-loads g c was kept has =
    let p = c.args.program.now in
    let look = g.F.Facts.map c.args.facts.now in
    let old = c.args.self.now in
    let new = c.fill_lent.new.self in
    let given = c.args.given.now in
    let told = c.in_ok-delta.ensures in
    let value = c.candidates.ensures.value in
    let delta = c.in_ok-delta.delta in
    stocked p look kept given.extras.now given.moment.now old new was c.args.source.now c.find_anew.new.source c.args.place given.rows.now delta told.parent told.condition has (returns-clause-anew g c)
    (λ right lent world s before stands at load.
    subst (λ (own : Candidates). Laden p (with_candidates own new.node) look world s before (extra_for given.extras.now)) (told.own ∙ value)
    (told.laden (source_candidates was) right (subst (λ (own : Candidates). NodeHas (with_candidates own old.node) look right) (sym value) lent) world s before stands at load))
    (λ right lent stands.
    subst (λ (own : Candidates). IsDifference (node_rows p look (with_candidates (source_candidates was) old.node)) (node_rows p look (with_candidates own new.node)) delta) (told.own ∙ value)
    (told.difference (source_candidates was) right (subst (λ (own : Candidates). NodeHas (with_candidates own old.node) look right) (sym value) lent) stands))
