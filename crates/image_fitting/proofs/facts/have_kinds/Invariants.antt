use Rattle.image_fitting.proofs.Common.{◌≡◌, drop, have_kinds}
use Rattle.image_fitting.proofs.facts.have_kinds.Given as goal

abbrev pub invariant-loop-place : goal.invariant-loop-place
invariant-loop-place l = have_kinds (drop l.place l.fields) (drop l.place l.values) ≡ have_kinds l.fields l.values
