use Rattle.drl_expr.proofs.{Common.{◌≤◌, ◌-◌, sym, arith, operator_at, operand_at, inside_at}, Steps.{is_opening, negative_none, negative_some, too_deep}}
use Rattle.drl_expr.proofs.Steps.{parenthesis_none, parenthesis_open, parenthesis_some, no_operand, begins, ends, too_high, no_turn_left, stops, goes_on}
use Rattle.{drl_expr.specs.Reading.{expr_at}, fx_base.proofs.Sequences.{map-none, map-some}}
use Rattle.drl_expr.proofs.reading.+operations.Goals as goal

pub factor-returns-in-None-2-clause-reads : goal.factor-returns-in-None-2-clause-reads
factor-returns-in-None-2-clause-reads t c =
    negative_none _ _ _ _ (omega arith) (is_opening _ _ _ _ c.in-Some.ensures c.in-Negative.is) (map-none _ _ _ c.in_ok-factor-in-Negative.ensures.reads c.in-None-2.is)

pub factor-returns-then-depth-eq0-clause-reads : goal.factor-returns-then-depth-eq0-clause-reads
factor-returns-then-depth-eq0-clause-reads t c = too_deep _ _ _ _ (omega arith) (is_opening _ _ _ _ c.in-Some.ensures c.in-Parenthesis.is) c.if-depth-eq0.true

pub factor-returns-in-None-3-clause-reads : goal.factor-returns-in-None-3-clause-reads
unfolding expr_at
factor-returns-in-None-3-clause-reads t c =
    parenthesis_none _ _ _ _ (omega arith) (is_opening _ _ _ _ c.in-Some.ensures c.in-Parenthesis.is) (omega arith) (map-none _ _ _ c.in_ok-chain-in-Parenthesis.ensures.reads c.in-None-3.is)

pub factor-returns-in_ok-negated-in-Negative-clause-reads : goal.factor-returns-in_ok-negated-in-Negative-clause-reads
factor-returns-in_ok-negated-in-Negative-clause-reads t c = rw c.in_ok-negated-in-Negative.ensures.reads
    (negative_some _ _ _ _ _ _ (omega arith) (is_opening _ _ _ _ c.in-Some.ensures c.in-Negative.is) (map-some _ _ _ _ c.in_ok-factor-in-Negative.ensures.reads c.in-Some-2.is))

pub factor-returns-in-None-behind_close-clause-reads : goal.factor-returns-in-None-behind_close-clause-reads
unfolding expr_at
factor-returns-in-None-behind_close-clause-reads t c =
    parenthesis_open _ _ _ _ _ _ (omega arith) (is_opening _ _ _ _ c.in-Some.ensures c.in-Parenthesis.is) (omega arith) (map-some _ _ _ _ c.in_ok-chain-in-Parenthesis.ensures.reads c.in-Some-3.is) (sym c.in-None-behind_close.ensures)

pub factor-returns-in-Some-behind_close-clause-reads : goal.factor-returns-in-Some-behind_close-clause-reads
unfolding expr_at
factor-returns-in-Some-behind_close-clause-reads t c =
    parenthesis_some _ _ _ _ _ _ _ (omega arith) (is_opening _ _ _ _ c.in-Some.ensures c.in-Parenthesis.is) (omega arith) (map-some _ _ _ _ c.in_ok-chain-in-Parenthesis.ensures.reads c.in-Some-3.is) (sym c.in-Some-behind_close.ensures)

pub chain-returns-in-None-clause-reads : goal.chain-returns-in-None-clause-reads
chain-returns-in-None-clause-reads t c = sym (no_operand (operator_at c.args.level) (operand_at c.args.level (inside_at c.args.depth)) c.args.height c.args.tokens.now (map-none _ _ _ c.in_ok-operand.ensures.reads c.in-None.is))

pub chain-loop-init : goal.chain-loop-init
chain-loop-init t c = record { so_far = begins (operator_at c.args.level) (operand_at c.args.level (inside_at c.args.depth)) c.args.height c.args.tokens.now _ _ (map-some _ _ _ _ c.in_ok-operand.ensures.reads c.in-Some.is); low = rw c.in-Some.is at c.in_ok-operand.ensures.low }

pub chain-returns-in-None-operator-clause-reads : goal.chain-returns-in-None-operator-clause-reads
chain-returns-in-None-operator-clause-reads t c = sym (ends _ _ _ _ _ _ _ (sym c.in-None-operator.ensures) c.loop.invariant.so_far)

pub chain-returns-then-height-left-clause-reads : goal.chain-returns-then-height-left-clause-reads
chain-returns-then-height-left-clause-reads t c = sym (too_high _ _ _ _ _ _ _ _ (sym c.in-Some-operator.ensures) (omega arith) c.loop.invariant.so_far)

pub chain-returns-in-None-2-clause-reads : goal.chain-returns-in-None-2-clause-reads
chain-returns-in-None-2-clause-reads t c =
    sym (stops _ _ _ _ _ _ _ _ c.loop-test.true (sym c.in-Some-operator.ensures) (omega arith) (map-none _ _ _ c.in_ok-operand-2.ensures.reads c.in-None-2.is) c.loop.invariant.so_far)

pub chain-loop-preserved : goal.chain-loop-preserved
chain-loop-preserved t c =
    let low : c.in-Some-2.found.0.height ≤ c.args.height - 1 = rw c.in-Some-2.is at c.in_ok-operand-2.ensures.low in
    record { so_far = rw c.in_ok-left.ensures.reads (goes_on _ _ _ _ _ _ _ _ _ _ c.loop-test.true (sym c.in-Some-operator.ensures) (omega arith) (map-some _ _ _ _ c.in_ok-operand-2.ensures.reads c.in-Some-2.is) c.loop.invariant.so_far); low = omega (arith, c.in_ok-left.ensures.high, low) }

pub chain-returns-in-None-operator-2-clause-reads : goal.chain-returns-in-None-operator-2-clause-reads
chain-returns-in-None-operator-2-clause-reads t c = sym (ends _ _ _ _ _ _ _ (sym c.in-None-operator-2.ensures) c.loop.invariant.so_far)

pub chain-returns-in-Some-operator-2-clause-reads : goal.chain-returns-in-Some-operator-2-clause-reads
chain-returns-in-Some-operator-2-clause-reads t c = sym (no_turn_left _ _ _ _ _ _ _ _ (omega arith) (sym c.in-Some-operator-2.ensures) c.loop.invariant.so_far)
