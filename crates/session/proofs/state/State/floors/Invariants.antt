use Rattle.session.{proofs.Common.{◌≡◌}, specs.Inspected.{all_floors}}
use Rattle.session.proofs.state.State.floors.Given as goal

abbrev pub invariant-loop-place : goal.invariant-loop-place
invariant-loop-place l = l.floors.items ≡ all_floors l.program l.self l.place
