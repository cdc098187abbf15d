use Rattle.drl_condition.proofs.Common.{◌≡◌, ◌+◌, ◌-◌, ◌*◌, length, with_front, all_turns, all_at, any_turns, any_at, choice_at}
use Rattle.drl_condition.proofs.choices.+choices.Given as goal

abbrev pub decreases-choice : goal.decreases-choice
decreases-choice l = 4 * l.depth

abbrev pub decreases-all : goal.decreases-all
decreases-all l = 4 * l.depth + 1

abbrev pub decreases-any : goal.decreases-any
decreases-any l = 4 * l.depth + 2

abbrev pub decreases-alternatives : goal.decreases-alternatives
decreases-alternatives l = 4 * l.depth + 3

abbrev pub invariant-all-loop : goal.invariant-all-loop
invariant-all-loop l = with_front l.pieces.items (all_turns (choice_at l.depth) (length l.tokens - l.counter) l.rest) ≡ with_front l.fn.pieces.items (all_at (choice_at l.depth) l.tokens)

abbrev pub invariant-any-loop : goal.invariant-any-loop
invariant-any-loop l =
    with_front l.pieces.items (any_turns (all_at (choice_at l.depth)) (length l.tokens - l.counter) l.next) ≡ with_front l.fn.pieces.items (any_at (all_at (choice_at l.depth)) l.tokens)
