use Rattle.{desk_image.{proofs.Common.{arith, TellsDecodeFault}, specs.Reading.{life_at}}, checkpoint.proofs.Loops.{begins, goes_on, stops, passed_on, ends}}
use Rattle.checkpoint.specs.Reading.{read_items}
use Rattle.desk_image.proofs.reading.each_at.Goals as goal

pub loop-init : goal.loop-init
loop-init c = record { read = rw c.in_ok-lives.ensures.items (begins _ _ _); filled = c.in_ok-lives.ensures.len; room = c.in_ok-lives.ensures.capacity }

pub returns-in_err-life-clause-bad : goal.returns-in_err-life-clause-bad
returns-in_err-life-clause-bad c =
    passed_on _ _ (TellsDecodeFault (read_items life_at c.args.count c.args.from.now)) c.from_residual-in_err-life.ensures.1
    (stops _ _ _ _ _ _ _ c.loop-test.true c.in_err-life.ensures.bad c.loop.invariant.read)

pub loop-preserved : goal.loop-preserved
loop-preserved c =
    let items = rw c.unwrap.ensures at c.push.ensures.items in
    let len = rw c.unwrap.ensures at c.push.ensures.len in
    record {
      read = rw items (goes_on _ _ _ _ _ _ _ _ c.loop-test.true c.in_ok-life.ensures.found c.loop.invariant.read);
      filled = omega (arith, len, c.loop.invariant.filled);
      room = omega (arith, c.push.ensures.capacity, c.loop.invariant.room);
    }

pub returns-clause-found : goal.returns-clause-found
returns-clause-found c = rw c.from_vec.ensures (ends _ _ _ _ _ _ (omega arith) c.loop.invariant.read)
