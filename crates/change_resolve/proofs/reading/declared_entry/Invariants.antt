use Rattle.change_resolve.proofs.Common.{◌≡◌, drop, entry_named}
use Rattle.change_resolve.proofs.reading.declared_entry.Given as goal

abbrev pub invariant-loop-place : goal.invariant-loop-place
invariant-loop-place l = entry_named l.name (drop l.place l.entries) l.place ≡ entry_named l.name l.entries 0
