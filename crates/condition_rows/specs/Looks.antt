-- What a store has at hand of the facts of a snapshot, and rows that name these facts alone.
use Rattle.std.specs.{Prelude.{◌≡◌, Bool, true, false, pos, [], Some}, Option.{is_some}}
use Rattle.fx_base.specs.declared.{fact.Fact.{Fact}, ids.Tag.{Tag}}
use Rattle.row_delta.specs.declared.row.{Named.{Named}, Row.{Row}}
use Rattle.rule_model.specs.{Snapshots.{nothing_reached, Snapshot}, Tuples.{name_of}}
use Rattle.join_tests.specs.Joins.{Look, versions_at}
use Rattle.condition_rows.specs.Sets.{held}

-- where nothing was inserted
abbrev pub empty_snapshot : Snapshot
empty_snapshot = record { facts = []; clock = pos 0; reached = nothing_reached }

-- the store has each version of the snapshot that is not forgotten
abbrev pub HasAllOf : Look → Snapshot → (Named → Bool) → Type 0
HasAllOf look s forgotten = (tag : Tag) (f : Fact) → held s tag ≡ Some f → forgotten (name_of f) ≡ false → look tag ≡ Some f

-- the rows of the set name versions of the snapshot alone
abbrev pub NameHeld : Snapshot → (Row → Bool) → Type 0
NameHeld s rows = (row : Row) → rows row ≡ true → is_some (versions_at (held s) row.facts) ≡ true
