use Rattle.alpha_memory.proofs.{Common.{◌∙◌, ap}, Agreeing.{listed, listed-none, Agree-none}}
use Rattle.alpha_memory.proofs.memory.AlphaMemory.new.Goals as goal

pub invariant_of-result : goal.invariant_of-result
invariant_of-result c = rw c.new.ensures.empty (Agree-none c.new-2.result c.new-2.ensures.buckets)

pub returns : goal.returns
returns c = ap listed c.new.ensures.empty ∙ listed-none
