-- What a session counts, by what it keeps.
use Rattle.std.specs.{Prelude.{◌≡◌, ℕ, ℤ, List, map, length}, List.{range_with_len, Sorted.{IsStrictlySortedBy}}}
use Rattle.fx_base.specs.declared.ids.TypeId.{TypeId}
use Rattle.engine.specs.declared.world_counts.WorldCounts.{WorldCounts}
use Rattle.rule_model.specs.{declared.program.Program.{Program}, Matches.{fire_cmp}}
use Rattle.session_model.specs.{Counts.{AreCounts}, Places.{floor_in}, Standing.{Contents}}

abbrev pub type_at : ℕ → TypeId
type_at place = record { 0 = place }

-- the places of so many types
abbrev pub all_types : ℕ → List TypeId
all_types many = map type_at (range_with_len 0 many)

-- the floors of so many entry points, by their places
abbrev pub all_floors : Program → Contents → ℕ → List ℤ
all_floors p k many = map (floor_in p k) (range_with_len 0 many)

-- the counts of what is kept, by the types and the entry points of a program; each pending match stands once
pub record IsCounted (p : Program) (k : Contents) (counts : WorldCounts) : Type 0 where
  pub clock : counts.clock ≡ k.clock
  pub facts : AreCounts k.facts (all_types (length p.types)) counts.facts
  pub floors : counts.floors ≡ all_floors p k (length p.entries)
  pub pending : counts.pending ≡ length k.agenda.pending
  pub once : IsStrictlySortedBy (fire_cmp k.agenda.saliences) k.agenda.pending
