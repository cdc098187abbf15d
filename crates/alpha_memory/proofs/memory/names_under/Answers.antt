use Rattle.std.specs.List.Sorted.{IsStrictlySortedBy}
use Rattle.alpha_memory.proofs.memory.names_under.Goals as goal

pub returns-in_err-vec-in-One-clause-sorted : goal.returns-in_err-vec-in-One-clause-sorted
unfolding IsStrictlySortedBy
returns-in_err-vec-in-One-clause-sorted c = rw c.in-One.is (tt, tt)

pub returns-in_ok-vec-in-One-clause-sorted : goal.returns-in_ok-vec-in-One-clause-sorted
unfolding IsStrictlySortedBy
returns-in_ok-vec-in-One-clause-sorted c = rw c.in-One.is (tt, tt)
