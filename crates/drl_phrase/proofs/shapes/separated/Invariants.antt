use Rattle.drl_phrase.proofs.Common.{◌≡◌, ◌-◌, length, with_front, more_at, separated_at}
use Rattle.drl_phrase.proofs.shapes.separated.Given as goal

abbrev pub invariant-loop : goal.invariant-loop
invariant-loop g l = with_front l.items.items (more_at g.P.Phrase.at l.separator (length l.tokens - l.counter) l.rest) ≡ separated_at g.P.Phrase.at l.separator l.tokens
