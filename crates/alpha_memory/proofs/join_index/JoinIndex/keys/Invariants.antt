use Rattle.alpha_memory.proofs.{Common.{◌≡◌, ◌++◌}, Keys.{keys_in}}
use Rattle.alpha_memory.proofs.join_index.JoinIndex.keys.Given as goal

abbrev pub invariant-loop-bucket : goal.invariant-loop-bucket
invariant-loop-bucket g l = l.keys.items ++ keys_in l.bucket-iterator ≡ keys_in l.self.buckets.entries
