use Rattle.checkpoint.proofs.{Common.{arith, TellsDecodeFault, read_items}, Loops.{begins, goes_on, stops, passed_on, ends}}
use Rattle.checkpoint.proofs.lists.items_at.Goals as goal

pub loop-init : goal.loop-init
loop-init g c = record { read = rw c.in_ok-items.ensures.items (begins _ _ _); filled = c.in_ok-items.ensures.len; room = c.in_ok-items.ensures.capacity }

pub returns-in_err-item-clause-bad : goal.returns-in_err-item-clause-bad
returns-in_err-item-clause-bad g c =
    passed_on _ _ (TellsDecodeFault (read_items g.T.Readable.at c.args.count c.args.from.now)) c.from_residual-in_err-item.ensures.1
    (stops _ _ _ _ _ _ _ c.loop-test.true c.in_err-item.ensures.bad c.loop.invariant.read)

pub loop-preserved : goal.loop-preserved
loop-preserved g c =
    let items = rw c.unwrap.ensures at c.push.ensures.items in
    let len = rw c.unwrap.ensures at c.push.ensures.len in
    record {
      read = rw items (goes_on _ _ _ _ _ _ _ _ c.loop-test.true c.in_ok-item.ensures.found c.loop.invariant.read);
      filled = omega (arith, len, c.loop.invariant.filled);
      room = omega (arith, c.push.ensures.capacity, c.loop.invariant.room);
    }

pub returns-clause-found : goal.returns-clause-found
returns-clause-found g c = rw c.from_vec.ensures (ends _ _ _ _ _ _ (omega arith) c.loop.invariant.read)
