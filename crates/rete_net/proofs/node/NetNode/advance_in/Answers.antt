use Rattle.rete_net.proofs.Common.{◌≡◌, ◌∙◌, sym, refl, subst, Option, None, Some, lent, showing, Member, NodeStep, TurnStep, seat_at, half_of, IsHalf}
use Rattle.rete_net.proofs.{Common.{IsOfSeat, member_at}, Alone.{by_source}, Fanning.{laid_same, laid_then}, Siblings.{left_by, with_seat, without_seat}}
use Rattle.{rete_net.proofs.Sourced.{lent_none}, std.proofs.Common.{option_map}, candidate_source.specs.{declared.source.Source.{Source}, Sources.{source_at}}}
use Rattle.candidate_source.specs.Sources.{handed_gone, handed_come}
use Rattle.rete_net.proofs.node.NetNode.advance_in.Goals as goal

pub returns-in_ok-delta-in-Some-clause-laid : goal.returns-in_ok-delta-in-Some-clause-laid
returns-in_ok-delta-in-Some-clause-laid g c =
    laid_then c.args.fans.now c.take_half-half.new.self c.advance_member.new.fans (laid_same c.args.fans.now c.take_half-half.new.self c.take_half-half.ensures.seats c.take_half-half.ensures.spans c.take_half-half.ensures.lone c.take_half-half.ensures.list) c.in_ok-delta-in-Some.ensures.laid

pub returns-in_ok-delta-in-Some-clause-others : goal.returns-in_ok-delta-in-Some-clause-others
returns-in_ok-delta-in-Some-clause-others g c =
    left_by c.args.fans.now c.take_half-half.new.self c.advance_member.new.fans c.args.place c.in-Some.seat (sym c.seat.ensures ∙ c.in-Some.is) c.take_half-half.ensures.list c.take_half-half.ensures.others c.in_ok-delta-in-Some.ensures.others

pub returns-in_ok-delta-in-Some-clause-sources : goal.returns-in_ok-delta-in-Some-clause-sources
returns-in_ok-delta-in-Some-clause-sources g c = lent_none c.args.place c.args.sources.now

pub returns-in_ok-delta-in-Some-clause-step : goal.returns-in_ok-delta-in-Some-clause-step
returns-in_ok-delta-in-Some-clause-step g c was source of halved unseated may =
    let p = c.args.happening.now.program.now in
    let look = g.F.Facts.map c.args.facts.now in
    let gone = lent c.args.happening.now.gone.now in
    let come = option_map (λ f. f.now) c.args.happening.now.come in
    let moment = c.args.happening.now.moment.now in
    let at : seat_at c.args.fans.now.seats.items c.args.place ≡ Some c.in-Some.seat = sym c.seat.ensures ∙ c.in-Some.is in
    let step =
    with_seat c.args.fans.now c.take_half-half.new.self c.advance_member.new.fans c.args.place c.take_half-half.ensures.list c.take_half-half.ensures.seats c.in_ok-delta-in-Some.ensures.laid.seats
    (λ (was now : Option Member). NodeStep p look gone come moment (showing was c.args.self.now) (showing now c.advance_member.new.self) c.args.left.now c.in_ok-delta-in-Some.delta)
    c.args.self.now look c.args.left.now.gone c.args.left.now.come c.take_half-half.result c.in-Some.seat at c.take_half-half.ensures.half
    (λ was of halved. c.in_ok-delta-in-Some.ensures.step was c.args.left.now of halved) was of halved in
    by_source p look gone come moment c.args.place c.args.self.now (handed_gone c.args.sources.now c.args.place) (handed_come c.args.sources.now c.args.place) source (source_at c.args.sources.now c.args.place)
    (λ s e. let no : Some c.in-Some.seat ≡ None = sym at ∙ unseated s e in cc) may (showing was c.args.self.now) (showing (member_at c.advance_member.new.fans c.args.place) c.advance_member.new.self) c.args.left.now c.in_ok-delta-in-Some.delta step

pub returns-in_ok-delta-in-None-clause-laid : goal.returns-in_ok-delta-in-None-clause-laid
returns-in_ok-delta-in-None-clause-laid g c = laid_same c.args.fans.now c.args.fans.now refl refl refl refl

pub returns-in_ok-delta-in-None-clause-step : goal.returns-in_ok-delta-in-None-clause-step
returns-in_ok-delta-in-None-clause-step g c was source of halved unseated may =
    let p = c.args.happening.now.program.now in
    let look = g.F.Facts.map c.args.facts.now in
    let gone = lent c.args.happening.now.gone.now in
    let come = option_map (λ f. f.now) c.args.happening.now.come in
    without_seat
    (λ (was now : Option Member). TurnStep p look gone come c.args.happening.now.moment.now source (source_at c.advance_alone.new.sources c.args.place) c.args.place (showing was c.args.self.now) (showing now c.advance_alone.new.self) c.args.left.now c.in_ok-delta-in-None.delta)
    look c.args.left.now.gone c.args.left.now.come c.args.fans.now c.args.place (sym c.seat.ensures ∙ c.in-None.is) (c.in_ok-delta-in-None.ensures.step source may) was halved
