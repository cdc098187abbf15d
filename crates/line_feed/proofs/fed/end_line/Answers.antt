use Rattle.line_feed.proofs.{Common.{◌++◌, length, arith}, Feeding.{feeds_line}, Behind.{ready_behind}}
use Rattle.line_feed.proofs.fed.end_line.Goals as goal

pub returns-in-Some-clause-fed : goal.returns-in-Some-clause-fed
returns-in-Some-clause-fed g c =
    feeds_line g.T.LineTaker.stands (g.T.LineTaker.steps c.args.fed.taker) c.args.fed c.in_ok-taker.taker c.in-Some.turn c.ended.result c.args.bytes.now c.args.text.now.items c.take.new.text.items c.behind.result
    (record {
      none = c.requires.none;
      answer = λ front is. c.ended.ensures.answer (front ++ c.args.bytes.now) (c.in_ok-add_front.ensures front is);
      turns = λ w ahead behind there said. rw c.in-Some.is at (c.in_ok-taker.ensures.turn w ahead behind there said);
    }) c.behind.ensures.behind

pub returns-in-Some-clause-ready : goal.returns-in-Some-clause-ready
returns-in-Some-clause-ready g c =
    ready_behind g.T.LineTaker.ready c.args.fed c.in_ok-taker.taker c.in-Some.turn c.behind.result _ (length c.args.bytes.now) c.requires.ready
    (λ n m there less. rw c.in-Some.is at (c.in_ok-taker.ensures.ready n m there less)) c.behind.ensures.behind c.behind.ensures.room (omega (arith, c.requires.fits))
