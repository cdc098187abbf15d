use Rattle.drl_check.proofs.Common.{◌≡◌, ◌++◌, map, drop, attr_word}
use Rattle.drl_check.proofs.twice.words_of_attrs.Given as goal

abbrev pub invariant-loop-attr : goal.invariant-loop-attr
invariant-loop-attr l = l.words.items ++ map attr_word (drop l.attr-index l.attrs) ≡ map attr_word l.attrs
