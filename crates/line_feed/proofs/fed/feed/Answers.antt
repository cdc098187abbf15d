use Rattle.line_feed.proofs.Common.{◌≡◌, ◌<◌, ◌+◌, ◌-◌, ℕ, List, length, take, drop, Some, None, subst, ◌∙◌, arith, length-drop, length-take, take_rest}
use Rattle.line_feed.proofs.Feeding.{feeds_through, feeds_whole, feeds_stopped}
use Rattle.line_feed.proofs.fed.feed.Goals as goal

pub returns-in-None-clause-fed : goal.returns-in-None-clause-fed
returns-in-None-clause-fed g c =
    let stands = g.T.LineTaker.stands in
    let steps = g.T.LineTaker.steps c.args.fed.taker in
    let bytes = c.args.bytes.now in
    let from = c.lines.from in
    let place = c.in-Some.place in
    feeds_stopped stands steps (from + place + 1) bytes c.args.fed c.args.text.now.items c.end_line.new.text.items
    (feeds_through stands steps (g.T.LineTaker.steps c.lines.fed.taker) from place (from + place - from) bytes (take (length bytes - from) (drop from bytes)) c.args.fed c.lines.fed c.in_ok-next.field-0 None
    c.args.text.now.items c.lines.text.items c.end_line.new.text.items c.lines.invariant.steps (omega arith) (take_rest bytes from) c.in-Some.ensures c.in-None.is c.lines.invariant.fed c.in_ok-next.ensures.fed)

pub lines-preserved : goal.lines-preserved
lines-preserved g c =
    let stands = g.T.LineTaker.stands in
    let steps = g.T.LineTaker.steps c.args.fed.taker in
    let bytes : List ℕ = c.args.bytes.now in
    let from : ℕ = c.lines.from in
    let place : ℕ = c.in-Some.place in
    let inv = c.lines.invariant in
    let less : place < length (drop from bytes) = subst (λ (z : List ℕ). place < length z) (take_rest bytes from) c.in-Some.ensures.0 in
    let long : length (drop from bytes) ≡ length bytes - from = length-drop from bytes in
    let taken = length-take (from + place - from) (drop from bytes) in
    let room = rw c.in-Some-2.is at c.in_ok-next.ensures.room in
    record {
      fed = feeds_through stands steps (g.T.LineTaker.steps c.lines.fed.taker) from place (from + place - from) bytes (take (length bytes - from) (drop from bytes)) c.args.fed c.lines.fed c.in_ok-next.field-0
          (Some c.in-Some-2.next) c.args.text.now.items c.lines.text.items c.end_line.new.text.items inv.steps (omega arith) (take_rest bytes from) c.in-Some.ensures c.in-Some-2.is inv.fed c.in_ok-next.ensures.fed;
      within = omega (arith, less, long, inv.within);
      room = omega (arith, less, long, taken, room, inv.room);
      ready = rw c.in-Some-2.is at c.in_ok-next.ensures.ready;
      steps = (rw c.in-Some-2.is at c.in_ok-next.ensures.steps) ∙ inv.steps;
      program = (rw c.in-Some-2.is at c.in_ok-next.ensures.program) ∙ inv.program;
      table = (rw c.in-Some-2.is at c.in_ok-next.ensures.table) ∙ inv.table;
    }

pub returns-clause-fed : goal.returns-clause-fed
returns-clause-fed g c =
    let bytes = c.args.bytes.now in
    let from = c.lines.from in
    feeds_whole g.T.LineTaker.stands (g.T.LineTaker.steps c.args.fed.taker) (g.T.LineTaker.steps c.lines.fed.taker) from bytes (take (length bytes - from) (drop from bytes)) c.args.fed c.lines.fed
    (Some c.in_ok-keep_rest.field-0) c.args.text.now.items c.lines.text.items c.lines.text.items c.lines.invariant.steps (take_rest bytes from) c.lines.invariant.fed (c.in_ok-keep_rest.ensures.fed c.lines.text.items)
