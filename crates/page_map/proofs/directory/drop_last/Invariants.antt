use Rattle.page_map.proofs.Common.{◌≡◌, ℕ, ArePagesApart, number_in}
use Rattle.page_map.proofs.directory.drop_last.Given as goal

abbrev pub invariant-loop-last : goal.invariant-loop-last
invariant-loop-last l = ((page place : ℕ) → number_in l.pages.items page place ≡ number_in l.initial.pages.items page place) × (ArePagesApart l.initial.pages.items → ArePagesApart l.pages.items)

abbrev pub decreases-loop-last : goal.decreases-loop-last
decreases-loop-last l = goal.left-loop-last l
