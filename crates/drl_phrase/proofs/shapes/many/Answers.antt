use Rattle.{drl_phrase.proofs.{Common.{arith}, Turns.{many_begins, many_goes_on, many_ends, many_no_turn_left}}, fx_base.proofs.Sequences.{map-none, map-some}}
use Rattle.drl_phrase.proofs.shapes.many.Goals as goal

pub loop-init : goal.loop-init
loop-init g c = rw c.new-items.ensures.items (many_begins _ _)

pub returns-in-None : goal.returns-in-None
returns-in-None g c = rw c.from_vec.ensures (many_ends _ _ _ _ _ (map-none _ _ _ c.in_ok-read.ensures c.in-None.is) c.loop.invariant)

pub loop-preserved : goal.loop-preserved
loop-preserved g c = rw c.in_ok-push.ensures.items (many_goes_on _ _ _ _ _ _ _ _ c.loop-test.true (map-some _ _ _ _ c.in_ok-read.ensures c.in-Some.is) c.loop.invariant)

pub returns : goal.returns
returns g c = rw c.from_vec-2.ensures (many_no_turn_left _ _ _ _ _ (omega arith) c.loop.invariant)
