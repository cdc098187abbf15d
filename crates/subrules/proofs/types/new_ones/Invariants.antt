use Rattle.subrules.proofs.Common.{◌≡◌, ◌++◌, not, drop, filter, has_word}
use Rattle.subrules.proofs.types.new_ones.Given as goal

abbrev pub invariant-loop-meta : goal.invariant-loop-meta
invariant-loop-meta l = l.new.items ++ filter (λ m. not (has_word l.metas m)) (drop l.meta-index l.others) ≡ filter (λ m. not (has_word l.metas m)) l.others
