use Rattle.rete_net.proofs.{Common.{◌≡◌, ◌∙◌, sym, subst, Option, None, Some, List, Named, lent, TurnStep}, Alone.{may_none, may_some, own_turn}}
use Rattle.{rete_net.{specs.Lending.{MayTurnIn}, proofs.Sourced.{lent_behind, lent_here, lent_none, lent_to_one, source_again}}, std.proofs.Common.{option_map}}
use Rattle.candidate_source.specs.{declared.source.Source.{Source}, Lending.{with_source}, Sources.{source_at, handed_gone, handed_come}}
use Rattle.rete_net.proofs.node.NetNode.advance_alone.Goals as goal

pub returns-in-Some-clause-sources : goal.returns-in-Some-clause-sources
returns-in-Some-clause-sources g c =
    let taken = c.take_handed-handed.ensures in
    let mid = c.take_handed-handed.new.self in
    let new = c.advance_lent.new.source in
    lent_behind c.args.place c.args.sources.now mid (with_source mid c.args.place new) taken.list taken.of taken.leads taken.others
    (lent_to_one c.advance_lent.new.self.node (g.F.Facts.map c.args.facts.now) c.args.left.now.come c.args.place mid c.in-Some.source.now new (sym c.in-Some.ensures.value) c.in_ok-delta-in-Some.ensures.anew)

pub returns-in-Some-clause-step : goal.returns-in-Some-clause-step
returns-in-Some-clause-step g c was may =
    let p = c.args.happening.now.program.now in
    let look = g.F.Facts.map c.args.facts.now in
    let gone = lent c.args.happening.now.gone.now in
    let come = option_map (λ f. f.now) c.args.happening.now.come in
    let moment = c.args.happening.now.moment.now in
    let taken = c.take_handed-handed.ensures in
    let mid = c.take_handed-handed.new.self in
    let s = c.in-Some.source.now in
    let new = c.advance_lent.new.source in
    let is = sym c.in-Some.ensures.value in
    let one = may_some p look gone come moment c.args.place c.args.self.now (handed_gone c.args.sources.now c.args.place) (handed_come c.args.sources.now c.args.place) was (source_at c.args.sources.now c.args.place) s
    (sym (source_again c.args.sources.now mid c.args.place taken.list taken.of taken.leads) ∙ is) may in
    let told = subst (λ (names : List Named). MayTurnIn p gone come moment.clock look one.0 s c.args.place c.args.self.now names c.take_handed-handed.result.come.items) (sym taken.gone)
    (subst (MayTurnIn p gone come moment.clock look one.0 s c.args.place c.args.self.now (handed_gone c.args.sources.now c.args.place)) (sym taken.come) one.2) in
    subst (λ (o : Option Source). TurnStep p look gone come moment o (source_at (with_source mid c.args.place new) c.args.place) c.args.place c.args.self.now c.advance_lent.new.self c.args.left.now c.in_ok-delta-in-Some.delta) (sym one.1)
    (subst (λ (o : Option Source). TurnStep p look gone come moment (Some one.0) o c.args.place c.args.self.now c.advance_lent.new.self c.args.left.now c.in_ok-delta-in-Some.delta)
    (sym (lent_here c.advance_lent.new.self.node look c.args.left.now.come c.args.place mid s new is c.in_ok-delta-in-Some.ensures.anew))
    (c.in_ok-delta-in-Some.ensures.step one.0 told.sourced told.reached told.turned))

pub returns-clause-sources : goal.returns-clause-sources
returns-clause-sources g c =
    let taken = c.take_handed-handed.ensures in
    let mid = c.take_handed-handed.new.self in
    lent_behind c.args.place c.args.sources.now mid mid taken.list taken.of taken.leads taken.others (lent_none c.args.place mid)

pub returns-clause-step : goal.returns-clause-step
returns-clause-step g c was may =
    let p = c.args.happening.now.program.now in
    let look = g.F.Facts.map c.args.facts.now in
    let gone = lent c.args.happening.now.gone.now in
    let come = option_map (λ f. f.now) c.args.happening.now.come in
    let moment = c.args.happening.now.moment.now in
    let taken = c.take_handed-handed.ensures in
    let mid = c.take_handed-handed.new.self in
    let is = sym c.in-None.ensures.value in
    let none = may_none p look gone come moment c.args.place c.args.self.now (handed_gone c.args.sources.now c.args.place) (handed_come c.args.sources.now c.args.place) was (source_at c.args.sources.now c.args.place)
    (sym (source_again c.args.sources.now mid c.args.place taken.list taken.of taken.leads) ∙ is) may in
    subst (λ (o : Option Source). TurnStep p look gone come moment o (source_at mid c.args.place) c.args.place c.args.self.now c.advance.new.self c.args.left.now c.in_ok-delta-in-None.delta) (sym none)
    (subst (λ (o : Option Source). TurnStep p look gone come moment None o c.args.place c.args.self.now c.advance.new.self c.args.left.now c.in_ok-delta-in-None.delta) (sym is)
    (own_turn p look gone come moment c.args.place c.args.self.now c.advance.new.self c.args.left.now c.in_ok-delta-in-None.delta c.in_ok-delta-in-None.ensures))
