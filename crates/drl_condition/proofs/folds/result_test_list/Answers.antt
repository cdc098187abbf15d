use Rattle.{drl_condition.proofs.Common.{sym, no_first, begins, goes_on, ends, stops, no_turn_left}, fx_base.proofs.Sequences.{map-none, map-some}}
use Rattle.drl_condition.proofs.folds.result_test_list.Goals as goal

pub returns-in-None : goal.returns-in-None
returns-in-None c = sym (no_first _ _ _ (map-none _ _ _ c.in_ok-result_test.ensures c.in-None.is))

pub loop-init : goal.loop-init
loop-init c = rw c.in_ok-push.ensures.items (rw c.new-items.ensures.items (begins _ _ _ _ _ (map-some _ _ _ _ c.in_ok-result_test.ensures c.in-Some.is)))

pub returns-in-None-behind : goal.returns-in-None-behind
returns-in-None-behind c = rw c.from_vec.ensures (sym (ends _ _ _ _ _ _ _ c.loop-test.true (sym c.in-None-behind.ensures) c.loop.invariant))

pub returns-in-None-2 : goal.returns-in-None-2
returns-in-None-2 c = sym (stops _ _ _ _ _ _ _ _ c.loop-test.true (sym c.in-Some-behind.ensures) (map-none _ _ _ c.in_ok-result_test-2.ensures c.in-None-2.is) c.loop.invariant)

pub loop-preserved : goal.loop-preserved
loop-preserved c = rw c.in_ok-push-2.ensures.items (goes_on _ _ _ _ _ _ _ _ _ _ c.loop-test.true (sym c.in-Some-behind.ensures) (map-some _ _ _ _ c.in_ok-result_test-2.ensures c.in-Some-2.is) c.loop.invariant)

pub returns : goal.returns
returns c = rw c.from_vec-2.ensures (sym (no_turn_left _ _ _ _ _ _ _ c.loop-test.false c.loop.invariant))
