use Rattle.line_feed.{proofs.{Common.{arith}, Fronts.{front_added, most_is}}, specs.Fed.{front_most}}
use Rattle.line_feed.proofs.front.add_front.Goals as goal

pub returns : goal.returns
returns c line is =
    front_added front_most line c.args.front.now.items c.args.bytes.now c.extend_from_slice.new.self.items c.saturating_sub-room.result c.min.result is
    (omega (arith, most_is, c.saturating_sub-room.ensures, c.len.ensures, c.args.front.now.ok.0)) (omega (arith, c.min.ensures)) c.in_ok-extend_from_slice.ensures.items
