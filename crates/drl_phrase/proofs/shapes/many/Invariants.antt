use Rattle.drl_phrase.proofs.Common.{◌≡◌, ◌-◌, length, with_front, turns_at, many_at}
use Rattle.drl_phrase.proofs.shapes.many.Given as goal

abbrev pub invariant-loop : goal.invariant-loop
invariant-loop g l = with_front l.items.items (turns_at g.P.Phrase.at (length l.tokens - l.counter) l.rest) ≡ many_at g.P.Phrase.at l.tokens
