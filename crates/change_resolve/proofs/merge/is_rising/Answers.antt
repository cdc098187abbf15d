use Rattle.change_resolve.proofs.{Common.{rules, answers_always, is_lt, name_cmp}, Merging.{rising_by}}
use Rattle.change_resolve.proofs.merge.is_rising.Goals as goal

pub returns : goal.returns
returns c is =
    rising_by c.args.members.now c.is_sorted_by.result
    (c.is_sorted_by.ensures.cases (λ x y. is_lt (name_cmp x y)) (answers_always _ _ _ (λ f a r g called. search rules))) is
