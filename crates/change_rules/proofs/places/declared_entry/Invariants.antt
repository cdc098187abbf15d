use Rattle.{change_rules.proofs.Common.{drop, ◌≡◌}, change_resolve.specs.Changes.{entry_named}}
use Rattle.change_rules.proofs.places.declared_entry.Given as goal

abbrev pub invariant-loop-place : goal.invariant-loop-place
invariant-loop-place l = entry_named l.name (drop l.place l.entries) l.place ≡ entry_named l.name l.entries 0
