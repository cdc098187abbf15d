use Rattle.drl_condition.proofs.Common.{◌≡◌, ◌-◌, length, with_front, separated_at, more_at, result_test_at}
use Rattle.drl_phrase.specs.declared.phrase.Punctuation.TheVariants.{Comma}
use Rattle.drl_condition.proofs.folds.result_test_list.Given as goal

abbrev pub invariant-loop : goal.invariant-loop
invariant-loop l = with_front l.items.items (more_at (result_test_at l.result_var) Comma (length l.tokens - l.counter) l.rest) ≡ separated_at (result_test_at l.result_var) Comma l.tokens
