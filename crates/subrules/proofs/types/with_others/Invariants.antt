use Rattle.subrules.proofs.Common.{◌≡◌, ◌++◌, not, filter, has_word}
use Rattle.subrules.proofs.types.with_others.Given as goal

abbrev pub invariant-loop-meta : goal.invariant-loop-meta
invariant-loop-meta l = l.all.items ++ l.meta-iterator.rest.items ≡ l.fn.metas.items ++ filter (λ m. not (has_word l.fn.metas.items m)) l.others
