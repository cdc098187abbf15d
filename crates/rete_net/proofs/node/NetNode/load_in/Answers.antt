use Rattle.rete_net.proofs.Common.{◌≡◌, ◌∙◌, sym, ap, refl, [], Err, Option, None, Some, showing, Member, NodeLoad, NoRow, seat_at, member_at, condition_of}
use Rattle.rete_net.proofs.{Common.{pattern_of}, Fanning.{laid_same, laid_then}, Filling.{same_fault}, Siblings.{left_by, with_seat, without_seat}}
use Rattle.{rete_net.{specs.Loads.{TurnLoads}, proofs.{Sourced.{lent_none}, Stocked.{load_by}}}, candidate_source.specs.Sources.{source_at}}
use Rattle.rete_net.proofs.node.NetNode.load_in.Goals as goal

pub returns-in_ok-delta-in-Some-clause-laid : goal.returns-in_ok-delta-in-Some-clause-laid
returns-in_ok-delta-in-Some-clause-laid g c =
    laid_then c.args.fans.now c.take_half-half.new.self c.load_member.new.fans (laid_same c.args.fans.now c.take_half-half.new.self c.take_half-half.ensures.seats c.take_half-half.ensures.spans c.take_half-half.ensures.lone c.take_half-half.ensures.list) c.in_ok-delta-in-Some.ensures.laid

pub returns-in_ok-delta-in-Some-clause-others : goal.returns-in_ok-delta-in-Some-clause-others
returns-in_ok-delta-in-Some-clause-others g c =
    left_by c.args.fans.now c.take_half-half.new.self c.load_member.new.fans c.args.place c.in-Some.seat (sym c.seat.ensures ∙ c.in-Some.is) c.take_half-half.ensures.list c.take_half-half.ensures.others c.in_ok-delta-in-Some.ensures.others

pub returns-in_ok-delta-in-Some-clause-sources : goal.returns-in_ok-delta-in-Some-clause-sources
returns-in_ok-delta-in-Some-clause-sources g c = lent_none c.args.place c.args.sources.now

pub returns-in_ok-delta-in-Some-clause-loads : goal.returns-in_ok-delta-in-Some-clause-loads
returns-in_ok-delta-in-Some-clause-loads g c was source kept theirs of halved unseated may =
    let p = c.args.program.now in
    let look = g.F.Facts.map c.args.facts.now in
    let given = c.args.given.now in
    let at : seat_at c.args.fans.now.seats.items c.args.place ≡ Some c.in-Some.seat = sym c.seat.ensures ∙ c.in-Some.is in
    load_by p look kept given.extras.now given.moment.now c.args.place given.rows.now c.in_ok-delta-in-Some.delta source (source_at c.args.sources.now c.args.place) (pattern_of (condition_of c.args.self.now.node))
    (λ s e. let no : Some c.in-Some.seat ≡ None = sym at ∙ unseated s e in cc) may (showing was c.args.self.now) (showing (member_at c.load_member.new.fans c.args.place) c.load_member.new.self)
    (with_seat c.args.fans.now c.take_half-half.new.self c.load_member.new.fans c.args.place c.take_half-half.ensures.list c.take_half-half.ensures.seats c.in_ok-delta-in-Some.ensures.laid.seats
    (λ (was now : Option Member). NodeLoad p look kept given.extras.now given.moment.now (showing was c.args.self.now) (showing now c.load_member.new.self) given.rows.now c.in_ok-delta-in-Some.delta)
    c.args.self.now look [] given.rows.now c.take_half-half.result c.in-Some.seat at c.take_half-half.ensures.half
    (λ was of halved. c.in_ok-delta-in-Some.ensures.loads p was kept theirs of halved) was of halved)

pub returns-in_err-delta-in-Some-clause-no_row : goal.returns-in_err-delta-in-Some-clause-no_row
returns-in_err-delta-in-Some-clause-no_row g c fault =
    c.in_err-delta-in-Some.ensures.no_row (ap Err (same_fault c.from_residual.result c.in_err-delta-in-Some.field-0.0 NoRow fault c.from_residual.ensures.1))

pub returns-in_ok-delta-in-None-clause-laid : goal.returns-in_ok-delta-in-None-clause-laid
returns-in_ok-delta-in-None-clause-laid g c = laid_same c.args.fans.now c.args.fans.now refl refl refl refl

pub returns-in_ok-delta-in-None-clause-loads : goal.returns-in_ok-delta-in-None-clause-loads
returns-in_ok-delta-in-None-clause-loads g c was source kept theirs of halved unseated may =
    let p = c.args.program.now in
    let look = g.F.Facts.map c.args.facts.now in
    let given = c.args.given.now in
    without_seat
    (λ (was now : Option Member). TurnLoads p look kept given.extras.now given.moment.now source (source_at c.load_alone.new.sources c.args.place) c.args.place (showing was c.args.self.now) (showing now c.load_alone.new.self) given.rows.now c.in_ok-delta-in-None.delta)
    look [] given.rows.now c.args.fans.now c.args.place (sym c.seat.ensures ∙ c.in-None.is) (c.in_ok-delta-in-None.ensures.loads source kept theirs may) was halved

pub returns-in_err-delta-in-None-clause-no_row : goal.returns-in_err-delta-in-None-clause-no_row
returns-in_err-delta-in-None-clause-no_row g c fault =
    c.in_err-delta-in-None.ensures.no_row (ap Err (same_fault c.from_residual-in_err-delta-in-None.result c.in_err-delta-in-None.field-0.0 NoRow fault c.from_residual-in_err-delta-in-None.ensures.1))
