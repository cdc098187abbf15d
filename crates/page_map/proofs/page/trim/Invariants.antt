use Rattle.page_map.proofs.Common.{◌≡◌, ◌≤◌, ℕ, length, slice_index_or, free}
use Rattle.page_map.proofs.page.trim.Given as goal

abbrev pub invariant-loop-last : goal.invariant-loop-last
invariant-loop-last l = ((k : ℕ) → slice_index_or l.page.items k free ≡ slice_index_or l.initial.page.items k free) × (length l.page.items ≤ length l.initial.page.items)

abbrev pub decreases-loop-last : goal.decreases-loop-last
decreases-loop-last l = goal.left-loop-last l
