use Rattle.drl_lex.proofs.Common.{◌≡◌, length, behind_close}
use Rattle.drl_lex.proofs.bytes.behind_close.Given as goal

abbrev pub invariant-loop-rest : goal.invariant-loop-rest
invariant-loop-rest l = behind_close l.rest ≡ behind_close l.bytes

abbrev pub decreases-loop-rest : goal.decreases-loop-rest
decreases-loop-rest l = length l.rest
