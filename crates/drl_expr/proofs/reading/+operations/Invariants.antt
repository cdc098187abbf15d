use Rattle.drl_expr.proofs.Common.{◌≡◌, ◌≤◌, ◌+◌, ◌*◌, ◌-◌, chain_at, operator_at, operand_at, level_at, inside_at, rank}
use Rattle.drl_expr.proofs.reading.+operations.Given as goal

abbrev pub decreases-factor : goal.decreases-factor
decreases-factor l = 5 * (l.depth + l.height)

abbrev pub decreases-operand : goal.decreases-operand
decreases-operand l = 5 * (l.depth + l.height) + 2 * rank l.level + 1

abbrev pub decreases-chain : goal.decreases-chain
decreases-chain l = 5 * (l.depth + l.height) + 2 * rank l.level + 2

abbrev pub invariant-chain-loop : goal.invariant-chain-loop
invariant-chain-loop l =
    record { so_far : chain_at (operator_at l.level) (operand_at l.level (inside_at l.depth)) l.height (l.height - l.counter) l.left.tree l.rest ≡ level_at l.level (inside_at l.depth) l.height l.tokens; low : l.left.height ≤ l.height }
