use Rattle.rete_net.proofs.Common.{◌≡◌, ◌∙◌, sym, ap, refl, half_at, Option, Some, None, [], has_name, NodeForgets, TurnForgets, showing, Member, member_at}
use Rattle.rete_net.proofs.{Common.{seat_at}, Alone.{forgets_by}, Fanning.{laid_same, laid_then}, Siblings.{left_by, names_forget, with_seat, without_seat}}
use Rattle.{rete_net.proofs.Sourced.{lent_none}, candidate_source.specs.Sources.{source_at, handed_gone}}
use Rattle.rete_net.proofs.node.NetNode.forget_in.Goals as goal

pub returns-in_ok-delta-in-Some-clause-laid : goal.returns-in_ok-delta-in-Some-clause-laid
returns-in_ok-delta-in-Some-clause-laid g c =
    laid_then c.args.fans.now c.take_half-half.new.self c.turn_names.new.self (laid_same c.args.fans.now c.take_half-half.new.self c.take_half-half.ensures.seats c.take_half-half.ensures.spans c.take_half-half.ensures.lone c.take_half-half.ensures.list) c.in_ok-delta-in-Some.ensures.laid

pub returns-in_ok-delta-in-Some-clause-others : goal.returns-in_ok-delta-in-Some-clause-others
returns-in_ok-delta-in-Some-clause-others g c =
    left_by c.args.fans.now c.take_half-half.new.self c.turn_names.new.self c.args.place c.in-Some.seat (sym c.seat.ensures ∙ c.in-Some.is) c.take_half-half.ensures.list c.take_half-half.ensures.others
    (λ other differ. (c.in_ok-delta-in-Some.ensures.others other differ, ap (λ h. half_at (record c.turn_names.new.self { halves = h }) other) c.in_ok-delta-in-Some.ensures.halves))

pub returns-in_ok-delta-in-Some-clause-sources : goal.returns-in_ok-delta-in-Some-clause-sources
returns-in_ok-delta-in-Some-clause-sources g c = lent_none c.args.place c.args.sources.now

pub returns-in_ok-delta-in-Some-clause-forgets : goal.returns-in_ok-delta-in-Some-clause-forgets
returns-in_ok-delta-in-Some-clause-forgets g c was source of halved unseated may =
    let p = c.args.loss.now.program.now in
    let look = g.F.Facts.map c.args.facts.now in
    let old = c.args.loss.now.old.now in
    let at : seat_at c.args.fans.now.seats.items c.args.place ≡ Some c.in-Some.seat = sym c.seat.ensures ∙ c.in-Some.is in
    let forgets =
    with_seat c.args.fans.now c.take_half-half.new.self c.turn_names.new.self c.args.place c.take_half-half.ensures.list c.take_half-half.ensures.seats c.in_ok-delta-in-Some.ensures.laid.seats
    (λ (was now : Option Member). NodeForgets p look (has_name old) (showing was c.args.self.now) (showing now c.args.self.now) c.args.rows.now c.in_ok-delta-in-Some.delta.gone)
    c.args.self.now look c.args.rows.now [] c.take_half-half.result c.in-Some.seat at c.take_half-half.ensures.half
    (λ was of halved.
    names_forget p look c.args.self.now was c.args.rows.now old c.take_half-half.result c.in_ok-delta-in-Some.delta c.take_half-half.new.self.list.items c.turn_names.new.self.list.items c.in-Some.seat
    of halved c.in_ok-delta-in-Some.ensures.turned) was of halved in
    forgets_by p look old c.args.place c.args.self.now (handed_gone c.args.sources.now c.args.place) source (source_at c.args.sources.now c.args.place)
    (λ s e. let no : Some c.in-Some.seat ≡ None = sym at ∙ unseated s e in cc) may (showing was c.args.self.now) (showing (member_at c.turn_names.new.self c.args.place) c.args.self.now) c.args.rows.now c.in_ok-delta-in-Some.delta.gone forgets

pub returns-in_ok-gone-in-None-clause-laid : goal.returns-in_ok-gone-in-None-clause-laid
returns-in_ok-gone-in-None-clause-laid g c = laid_same c.args.fans.now c.args.fans.now refl refl refl refl

pub returns-in_ok-gone-in-None-clause-forgets : goal.returns-in_ok-gone-in-None-clause-forgets
returns-in_ok-gone-in-None-clause-forgets g c was source of halved unseated may =
    without_seat
    (λ (was now : Option Member). TurnForgets c.args.loss.now.program.now (g.F.Facts.map c.args.facts.now) (has_name c.args.loss.now.old.now) source (source_at c.forget_alone.new.sources c.args.place) c.args.place
    (showing was c.args.self.now) (showing now c.forget_alone.new.self) c.args.rows.now c.in_ok-gone-in-None.gone)
    (g.F.Facts.map c.args.facts.now) c.args.rows.now [] c.args.fans.now c.args.place (sym c.seat.ensures ∙ c.in-None.is) (c.in_ok-gone-in-None.ensures.forgets source may) was halved
