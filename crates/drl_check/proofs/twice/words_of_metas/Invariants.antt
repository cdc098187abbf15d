use Rattle.drl_check.proofs.Common.{◌≡◌, ◌++◌, map, drop, annotation_word}
use Rattle.drl_check.proofs.twice.words_of_metas.Given as goal

abbrev pub invariant-loop-meta : goal.invariant-loop-meta
invariant-loop-meta l = l.words.items ++ map annotation_word (drop l.meta-index l.metas) ≡ map annotation_word l.metas
