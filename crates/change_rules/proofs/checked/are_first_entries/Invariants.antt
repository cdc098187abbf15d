use Rattle.{change_rules.proofs.Common.{Some, ℕ, ◌<◌, ◌≡◌}, change_resolve.specs.Changes.{entry_named}, rule_model.specs.declared.program.EntryInfo.{EntryInfo}}
use Rattle.std.proofs.Common.{slice_get}
use Rattle.change_rules.proofs.checked.are_first_entries.Given as goal

abbrev pub invariant-loop-place : goal.invariant-loop-place
invariant-loop-place l = (k : ℕ) (entry : EntryInfo) → k < l.place → slice_get l.entries k ≡ Some entry → entry_named entry.name l.entries 0 ≡ Some k
