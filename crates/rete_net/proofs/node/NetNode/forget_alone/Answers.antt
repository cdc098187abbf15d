use Rattle.rete_net.proofs.{Common.{◌∙◌, sym, subst, Option, None, Some, [], has_name, TurnForgets}, Alone.{forget_none, forget_some, own_forgets}}
use Rattle.rete_net.{specs.Lending.{MayForgetIn}, proofs.Sourced.{lent_behind, lent_here, lent_none, lent_to_one, source_again}}
use Rattle.candidate_source.specs.{declared.source.Source.{Source}, Lending.{with_source}, Sources.{source_at, handed_gone}}
use Rattle.rete_net.proofs.node.NetNode.forget_alone.Goals as goal

pub returns-in-Some-clause-sources : goal.returns-in-Some-clause-sources
returns-in-Some-clause-sources g c =
    let taken = c.take_handed-handed.ensures in
    let mid = c.take_handed-handed.new.self in
    let new = c.forget_lent.new.source in
    lent_behind c.args.place c.args.sources.now mid (with_source mid c.args.place new) taken.list taken.of taken.leads taken.others
    (lent_to_one c.forget_lent.new.self.node (g.F.Facts.map c.args.facts.now) [] c.args.place mid c.in-Some.source.now new (sym c.in-Some.ensures.value) c.in_ok-gone-in-Some.ensures.anew)

pub returns-in-Some-clause-forgets : goal.returns-in-Some-clause-forgets
returns-in-Some-clause-forgets g c was may =
    let p = c.args.program.now in
    let look = g.F.Facts.map c.args.facts.now in
    let old = c.args.old.now in
    let taken = c.take_handed-handed.ensures in
    let mid = c.take_handed-handed.new.self in
    let s = c.in-Some.source.now in
    let new = c.forget_lent.new.source in
    let is = sym c.in-Some.ensures.value in
    let n = c.args.self.now in
    let one = forget_some p look old c.args.place n (handed_gone c.args.sources.now c.args.place) was (source_at c.args.sources.now c.args.place) s
    (sym (source_again c.args.sources.now mid c.args.place taken.list taken.of taken.leads) ∙ is) may in
    let told = subst (MayForgetIn p look old one.0 s c.args.place n) (sym taken.gone) one.2 in
    subst (λ (o : Option Source). TurnForgets p look (has_name old) o (source_at (with_source mid c.args.place new) c.args.place) c.args.place n c.forget_lent.new.self c.args.rows.now c.in_ok-gone-in-Some.gone) (sym one.1)
    (subst (λ (o : Option Source). TurnForgets p look (has_name old) (Some one.0) o c.args.place n c.forget_lent.new.self c.args.rows.now c.in_ok-gone-in-Some.gone)
    (sym (lent_here c.forget_lent.new.self.node look [] c.args.place mid s new is c.in_ok-gone-in-Some.ensures.anew))
    (c.in_ok-gone-in-Some.ensures.forgets one.0 old told))

pub returns-clause-sources : goal.returns-clause-sources
returns-clause-sources g c =
    let taken = c.take_handed-handed.ensures in
    let mid = c.take_handed-handed.new.self in
    lent_behind c.args.place c.args.sources.now mid mid taken.list taken.of taken.leads taken.others (lent_none c.args.place mid)

pub returns-clause-forgets : goal.returns-clause-forgets
returns-clause-forgets g c was may =
    let p = c.args.program.now in
    let look = g.F.Facts.map c.args.facts.now in
    let old = c.args.old.now in
    let taken = c.take_handed-handed.ensures in
    let mid = c.take_handed-handed.new.self in
    let n = c.args.self.now in
    let is = sym c.in-None.ensures.value in
    let none = forget_none p look old c.args.place n (handed_gone c.args.sources.now c.args.place) was (source_at c.args.sources.now c.args.place) (sym (source_again c.args.sources.now mid c.args.place taken.list taken.of taken.leads) ∙ is) may in
    subst (λ (o : Option Source). TurnForgets p look (has_name old) o (source_at mid c.args.place) c.args.place n c.forget.new.self c.args.rows.now c.in_ok-gone-in-None.gone) (sym none)
    (subst (λ (o : Option Source). TurnForgets p look (has_name old) None o c.args.place n c.forget.new.self c.args.rows.now c.in_ok-gone-in-None.gone) (sym is)
    (own_forgets p look (has_name old) c.args.place n c.forget.new.self c.args.rows.now c.in_ok-gone-in-None.gone c.in_ok-gone-in-None.ensures))
