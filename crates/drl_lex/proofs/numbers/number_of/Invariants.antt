use Rattle.drl_lex.proofs.Common.{◌≡◌, take, digits_value, capped}
use Rattle.drl_lex.proofs.numbers.number_of.Given as goal

abbrev pub invariant-loop-digit : goal.invariant-loop-digit
invariant-loop-digit l = l.number ≡ capped (digits_value 10 (take l.digit-index l.digits))
