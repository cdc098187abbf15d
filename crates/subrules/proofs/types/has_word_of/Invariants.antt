use Rattle.subrules.proofs.Common.{◌≡◌, drop, has_word}
use Rattle.subrules.proofs.types.has_word_of.Given as goal

abbrev pub invariant-loop-other : goal.invariant-loop-other
invariant-loop-other l = has_word (drop l.other-index l.metas) l.meta ≡ has_word l.metas l.meta
