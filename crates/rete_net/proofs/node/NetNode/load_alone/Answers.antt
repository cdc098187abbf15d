use Rattle.rete_net.{proofs.{Common.{sym, ap, subst, Err, Option, None, Some, condition_of, pattern_of, NoRow}, Filling.{same_fault}}, specs.Loads.{TurnLoads}}
use Rattle.rete_net.proofs.{Sourced.{lent_here, lent_none, lent_to_one}, Stocked.{may_load_none, may_load_some, own_load}}
use Rattle.candidate_source.specs.{declared.source.Source.{Source}, Lending.{with_source}, Sources.{source_at}}
use Rattle.rete_net.proofs.node.NetNode.load_alone.Goals as goal

pub returns-in_ok-delta-in-Some-clause-sources : goal.returns-in_ok-delta-in-Some-clause-sources
returns-in_ok-delta-in-Some-clause-sources g c =
    lent_to_one c.load_lent.new.self.node (g.F.Facts.map c.args.facts.now) c.args.given.now.rows.now c.args.place c.args.sources.now c.in-Some.source.now c.load_lent.new.source (sym c.in-Some.ensures.value) c.in_ok-delta-in-Some.ensures.anew

pub returns-in_ok-delta-in-Some-clause-loads : goal.returns-in_ok-delta-in-Some-clause-loads
returns-in_ok-delta-in-Some-clause-loads g c was kept theirs may =
    let p = c.args.program.now in
    let look = g.F.Facts.map c.args.facts.now in
    let given = c.args.given.now in
    let sources = c.args.sources.now in
    let place = c.args.place in
    let new = c.load_lent.new.source in
    let is = sym c.in-Some.ensures.value in
    let one = may_load_some kept given.moment.now.clock look was (source_at sources place) (pattern_of (condition_of c.args.self.now.node)) c.in-Some.source.now is may in
    subst (λ (o : Option Source). TurnLoads p look kept given.extras.now given.moment.now o (source_at (with_source sources place new) place) place c.args.self.now c.load_lent.new.self given.rows.now c.in_ok-delta-in-Some.delta) (sym one.1)
    (subst (λ (o : Option Source). TurnLoads p look kept given.extras.now given.moment.now (Some one.0) o place c.args.self.now c.load_lent.new.self given.rows.now c.in_ok-delta-in-Some.delta)
    (sym (lent_here c.load_lent.new.self.node look given.rows.now place sources c.in-Some.source.now new is c.in_ok-delta-in-Some.ensures.anew))
    (c.in_ok-delta-in-Some.ensures.loads one.0 kept one.2))

pub returns-in_err-delta-in-Some-clause-no_row : goal.returns-in_err-delta-in-Some-clause-no_row
returns-in_err-delta-in-Some-clause-no_row g c fault =
    c.in_err-delta-in-Some.ensures.no_row (ap Err (same_fault c.from_residual.result c.in_err-delta-in-Some.field-0.0 NoRow fault c.from_residual.ensures.1))

pub returns-in_ok-delta-in-None-clause-sources : goal.returns-in_ok-delta-in-None-clause-sources
returns-in_ok-delta-in-None-clause-sources g c = lent_none c.args.place c.args.sources.now

pub returns-in_ok-delta-in-None-clause-loads : goal.returns-in_ok-delta-in-None-clause-loads
returns-in_ok-delta-in-None-clause-loads g c was kept theirs may =
    let p = c.args.program.now in
    let look = g.F.Facts.map c.args.facts.now in
    let given = c.args.given.now in
    let sources = c.args.sources.now in
    let place = c.args.place in
    let is = sym c.in-None.ensures.value in
    let none = may_load_none kept given.moment.now.clock look was (source_at sources place) (pattern_of (condition_of c.args.self.now.node)) is may in
    subst (λ (o : Option Source). TurnLoads p look kept given.extras.now given.moment.now o (source_at sources place) place c.args.self.now c.load.new.self given.rows.now c.in_ok-delta-in-None.delta) (sym none)
    (subst (λ (o : Option Source). TurnLoads p look kept given.extras.now given.moment.now None o place c.args.self.now c.load.new.self given.rows.now c.in_ok-delta-in-None.delta) (sym is)
    (own_load p look kept given.extras.now given.moment.now place given.rows.now c.in_ok-delta-in-None.delta c.args.self.now c.load.new.self (c.in_ok-delta-in-None.ensures.loads kept theirs)))

pub returns-in_err-delta-in-None-clause-no_row : goal.returns-in_err-delta-in-None-clause-no_row
returns-in_err-delta-in-None-clause-no_row g c fault =
    c.in_err-delta-in-None.ensures.no_row (ap Err (same_fault c.from_residual-in_err-delta-in-None.result c.in_err-delta-in-None.field-0.0 NoRow fault c.from_residual-in_err-delta-in-None.ensures.1))
