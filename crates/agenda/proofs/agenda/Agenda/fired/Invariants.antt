use Rattle.agenda.proofs.Common.{◌≡◌, Bor, map, Match}
use Rattle.agenda.proofs.agenda.Agenda.fired.Given as goal

abbrev pub invariant-loop-matched : goal.invariant-loop-matched
invariant-loop-matched l = l.matches.items ≡ map (λ (m : Bor Match). m.now) l.yielded
