use Rattle.{change_rules.{proofs.Common.{Some, ℕ, ◌<◌, ◌≡◌}, specs.Judged.{HasEntry}}, rule_model.specs.declared.program.EntryInfo.{EntryInfo}}
use Rattle.std.proofs.Common.{slice_get}
use Rattle.change_rules.proofs.ground.have_entries.Given as goal

abbrev pub invariant-loop-place : goal.invariant-loop-place
invariant-loop-place l = (k : ℕ) (entry : EntryInfo) → k < l.place → slice_get l.old.entries k ≡ Some entry → HasEntry l.old l.new k entry
