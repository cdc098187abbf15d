use Rattle.alpha_memory.proofs.Common.{◌≡◌, ◌++◌, keys_of, entries}
use Rattle.alpha_memory.proofs.join_index.add_keys.Given as goal

abbrev pub invariant-loop-key : goal.invariant-loop-key
invariant-loop-key g l = l.keys.items ++ l.key-iterator ≡ l.initial.keys.items ++ keys_of (entries l.bucket)
