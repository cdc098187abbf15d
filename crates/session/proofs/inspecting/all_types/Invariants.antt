use Rattle.session.{proofs.Common.{◌≡◌}, specs.Inspected.{all_types}}
use Rattle.session.proofs.inspecting.all_types.Given as goal

abbrev pub invariant-loop-place : goal.invariant-loop-place
invariant-loop-place l = l.found.items ≡ all_types l.place
