use Rattle.{session.proofs.Common.{◌≡◌, ◌<◌, ◌^◌, ℕ}, rete_net.specs.Dropped.{AreListed}, session_model.proofs.Dropping.{AreAhead}}
use Rattle.session.proofs.settling.drop_fired.Given as goal

abbrev pub invariant-loop-answer : goal.invariant-loop-answer
invariant-loop-answer l =
    (l.agenda.saliences ≡ l.fn.agenda.saliences) × (l.agenda.pending ≡ l.fn.agenda.pending)
    × ((rules : ℕ) → rules < 2 ^ 16 → AreListed l.fn.dropped.items rules → AreAhead l.fn.dropped.items rules l.fn.agenda l.agenda l.answer-iterator.rest.items)
