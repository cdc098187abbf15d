-- Moments of a run, at which conditions are looked at.
use Rattle.std.specs.Prelude.{◌≡◌, ℕ, ℤ, pos, List, [], slice_index_or}
use Rattle.rule_model.specs.{declared.moment.Moment.{Moment}, Snapshots.{Reached, Snapshot}}

-- what stands at the place of an entry point; 0 beyond the end
abbrev pub moment_in : List ℤ → ℕ → ℤ
moment_in moments entry = slice_index_or moments entry (pos 0)

abbrev pub reached_in : List ℤ → List ℤ → Reached
reached_in last_starts promises = record { last_start = moment_in last_starts; promise = moment_in promises }

-- the snapshot of a moment without facts
abbrev pub snapshot_at : Moment → Snapshot
snapshot_at m = record { facts = []; clock = m.clock; reached = reached_in m.last_starts.now m.promises.now }

-- a snapshot is that of a moment, whatever its facts
pub record IsAt (s : Snapshot) (m : Moment) : Type 0 where
  pub clock : s.clock ≡ m.clock
  pub reached : s.reached ≡ reached_in m.last_starts.now m.promises.now
