use Rattle.{change_rules.{proofs.Common.{Some, TypeInfo, ℕ, ◌<◌, ◌≡◌}, specs.Judged.{HasType}}, std.proofs.Common.{slice_get}}
use Rattle.change_rules.proofs.ground.have_types.Given as goal

abbrev pub invariant-loop-place : goal.invariant-loop-place
invariant-loop-place l = (k : ℕ) (ty : TypeInfo) → k < l.place → slice_get l.old.types k ≡ Some ty → HasType l.old l.new k ty
