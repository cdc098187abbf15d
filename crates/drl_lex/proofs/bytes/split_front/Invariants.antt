use Rattle.drl_lex.proofs.Common.{◌≡◌, take, true, list_all, in_class}
use Rattle.drl_lex.proofs.bytes.split_front.Given as goal

abbrev pub invariant-loop-i : goal.invariant-loop-i
invariant-loop-i l = list_all (in_class l.class) (take l.i l.bytes) ≡ true
