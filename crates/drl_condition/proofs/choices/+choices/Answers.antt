use Rattle.drl_condition.proofs.{Common.{sym, ◌∙◌, arith, IfOk-weaker}, ChoiceSteps.{all_begins, any_begins, all_stops, all_ends, all_goes_on, all_no_turn}}
use Rattle.drl_condition.proofs.ChoiceSteps.{any_stops, any_ends, any_goes_on, any_no_turn, no_first, no_other, no_more, still_open, closes, too_deep, deeper}
use Rattle.{drl_condition.proofs.ChoiceSteps.{no_condition, one_condition}, fx_base.proofs.Sequences.{map-none, map-some}}
use Rattle.drl_condition.proofs.choices.+choices.Goals as goal

pub all-loop-init : goal.all-loop-init
all-loop-init t c = all_begins _ _ _

pub all-returns-in-None : goal.all-returns-in-None
all-returns-in-None t c = all_stops _ _ _ _ _ _ c.loop-test.true (map-none _ _ _ c.in_ok-choice.ensures c.in-None.is) c.loop.invariant

pub all-returns-then-ends_all : goal.all-returns-then-ends_all
all-returns-then-ends_all t c = all_ends _ _ _ _ _ _ _ _ c.loop-test.true (map-some _ _ _ _ c.in_ok-choice.ensures c.in-Some.is) (sym c.if-ends_all.ensures) c.loop.invariant

pub all-loop-preserved : goal.all-loop-preserved
all-loop-preserved t c = all_goes_on _ _ _ _ _ _ _ _ c.loop-test.true (map-some _ _ _ _ c.in_ok-choice.ensures c.in-Some.is) (sym c.if-ends_all.ensures) c.loop.invariant

pub all-returns : goal.all-returns
all-returns t c = all_no_turn _ _ _ _ _ _ c.loop-test.false c.loop.invariant

pub alternatives-returns-in-None : goal.alternatives-returns-in-None
alternatives-returns-in-None t c = no_first _ _ _ (map-none _ _ _ c.in_ok-all.ensures c.in-None.is)

pub alternatives-returns-in-None-behind_word : goal.alternatives-returns-in-None-behind_word
alternatives-returns-in-None-behind_word t c = no_other _ _ _ _ _ (map-some _ _ _ _ c.in_ok-all.ensures c.in-Some.is) c.in-None-behind_word.ensures

pub alternatives-returns-in-None-2 : goal.alternatives-returns-in-None-2
alternatives-returns-in-None-2 t c =
    no_more _ _ _ _ _ (map-some _ _ _ _ c.in_ok-all.ensures c.in-Some.is) _ c.in-Some-behind_word.ensures (rw c.in_ok-push.ensures.items at (map-none _ _ _ c.in_ok-any.ensures c.in-None-2.is))

pub alternatives-returns-in-None-behind : goal.alternatives-returns-in-None-behind
alternatives-returns-in-None-behind t c =
    still_open _ _ _ _ _ (map-some _ _ _ _ c.in_ok-all.ensures c.in-Some.is) _ c.in-Some-behind_word.ensures _ _ (rw c.in_ok-push.ensures.items at (map-some _ _ _ _ c.in_ok-any.ensures c.in-Some-2.is)) c.in-None-behind.ensures

pub alternatives-returns-in_ok-push-in-Some-behind : goal.alternatives-returns-in_ok-push-in-Some-behind
alternatives-returns-in_ok-push-in-Some-behind t c = rw c.in_ok-push-in-Some-behind.ensures.items
    (closes _ _ _ _ _ (map-some _ _ _ _ c.in_ok-all.ensures c.in-Some.is) _ c.in-Some-behind_word.ensures _ _ (rw c.in_ok-push.ensures.items at (map-some _ _ _ _ c.in_ok-any.ensures c.in-Some-2.is)) _ c.in-Some-behind.ensures)

pub any-loop-init : goal.any-loop-init
any-loop-init t c = any_begins _ _ _

pub any-returns-in-None : goal.any-returns-in-None
any-returns-in-None t c = any_stops _ _ _ _ _ _ c.loop-test.true (map-none _ _ _ c.in_ok-all.ensures c.in-None.is) c.loop.invariant

pub any-returns-in-None-behind_word : goal.any-returns-in-None-behind_word
any-returns-in-None-behind_word t c = any_ends _ _ _ _ _ _ _ _ c.loop-test.true (map-some _ _ _ _ c.in_ok-all.ensures c.in-Some.is) c.in-None-behind_word.ensures c.loop.invariant

pub any-loop-preserved : goal.any-loop-preserved
any-loop-preserved t c = rw c.in_ok-push.ensures.items
    (any_goes_on _ _ _ _ _ _ _ _ _ c.loop-test.true (map-some _ _ _ _ c.in_ok-all.ensures c.in-Some.is) c.in-Some-behind_word.ensures c.loop.invariant)

pub any-returns : goal.any-returns
any-returns t c = any_no_turn _ _ _ _ _ _ c.loop-test.false c.loop.invariant

pub choice-returns-then-depth-eq0 : goal.choice-returns-then-depth-eq0
choice-returns-then-depth-eq0 t c = too_deep _ _ _ _ c.in-Some.ensures c.if-depth-eq0.true

pub choice-returns-in-Some : goal.choice-returns-in-Some
choice-returns-in-Some t c =
    IfOk-weaker c.alternatives.result _ _ (λ found e. e ∙ deeper _ _ _ _ _ c.in_ok-push.ensures.items c.in-Some.ensures (omega arith)) c.alternatives.ensures

pub choice-returns-in-None : goal.choice-returns-in-None
choice-returns-in-None t c = no_condition _ _ _ c.in_default.ensures (map-none _ _ _ c.in_ok-read.ensures c.in-None.is)

pub choice-returns-in_ok-push-in-Some-2 : goal.choice-returns-in_ok-push-in-Some-2
choice-returns-in_ok-push-in-Some-2 t c = rw c.in_ok-push-in-Some-2.ensures.items (one_condition _ _ _ _ _ c.in_default.ensures (map-some _ _ _ _ c.in_ok-read.ensures c.in-Some-2.is))
