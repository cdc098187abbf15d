use Rattle.drl_show.proofs.Common.{◌≡◌, ◌++◌, drop, escaped}
use Rattle.drl_show.proofs.tokens.text_bytes.Given as goal

abbrev pub invariant-loop-byte : goal.invariant-loop-byte
invariant-loop-byte l = l.out.items ++ escaped (drop l.byte-index l.content) ≡ l.fn.out.items ++ escaped l.content
