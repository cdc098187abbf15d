use Rattle.rete_net.{proofs.{Common.{◌∙◌, subst, [], Candidates}, Forgone.{turn_forgets}}, specs.Lending.{IsFoundAnew}}
use Rattle.beta_node.{proofs.Lending.{ForgetsFrom}, specs.Lending.{with_candidates}}
use Rattle.rete_net.proofs.node.NetNode.forget_lent.Goals as goal

pub returns-clause-anew : goal.returns-clause-anew
returns-clause-anew g c =
    subst (λ (own : Candidates). IsFoundAnew c.drop_lent.new.self.node (g.F.Facts.map c.args.facts.now) c.args.place [] (record c.args.source.now { own = own }) c.find_anew.new.source) (c.in_ok-gone.ensures.own ∙ c.candidates.ensures.value)
    c.in_ok-find_anew.ensures

pub returns-clause-forgets : goal.returns-clause-forgets
returns-clause-forgets g c was old may =
    let p = c.args.program.now in
    let look = g.F.Facts.map c.args.facts.now in
    let told = c.in_ok-gone.ensures in
    let value = c.candidates.ensures.value in
    let before = c.args.self.now.node in
    let after = c.drop_lent.new.self.node in
    let rows = c.args.rows.now in
    let gone = c.in_ok-gone.gone in
    let names = c.args.handed.now.gone.items in
    turn_forgets p look old c.args.self.now c.drop_lent.new.self was c.args.source.now c.find_anew.new.source c.args.place rows gone names
    told.parent told.condition may.sourced.keeps may.left may.reached (returns-clause-anew g c)
    (subst (λ (own : Candidates). ForgetsFrom p look rows gone names (with_candidates own before) (with_candidates own after)) value
    (subst (λ (own : Candidates). ForgetsFrom p look rows gone names (with_candidates c.candidates.result.now before) (with_candidates own after)) told.own (record {
      stands = told.stands;
      drops = told.dropped;
      alone = told.dropped_alone;
      ordered = told.in_order;
    })))
