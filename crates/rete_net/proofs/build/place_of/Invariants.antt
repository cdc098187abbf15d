use Rattle.rete_net.proofs.Common.{◌≡◌, ◌<◌, ℕ, Some, slice_get, Origin}
use Rattle.rete_net.proofs.build.place_of.Given as goal

abbrev pub invariant-loop-place : goal.invariant-loop-place
invariant-loop-place l =
    (k : ℕ) (origin : Origin) → k < l.place → slice_get l.origins k ≡ Some origin → origin.parent ≡ l.parent → origin.condition.now ≡ l.condition → ⊥
