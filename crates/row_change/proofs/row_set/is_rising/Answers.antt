use Rattle.row_change.proofs.{Common.{is_lt, rules, row_cmp, answers_always}, Placing.{rising_order}}
use Rattle.row_change.proofs.row_set.is_rising.Goals as goal

pub returns : goal.returns
returns c is =
    rising_order c.args.rows.now c.is_sorted_by.result
    (c.is_sorted_by.ensures.cases (λ x y. is_lt (row_cmp x y)) (answers_always _ _ _ (λ f a r g called. search rules))) is
