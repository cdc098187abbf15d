use Rattle.rete_net.proofs.Common.{◌≡◌, ◌<◌, ◌+ℤ◌, pos, ℕ, ℤ, Option, Some, false, slice_get, snapshot_at, floor, has_place, IsFrom, IsSet, EntryTimers}
use Rattle.rete_net.proofs.schedule.Schedule.due.Given as goal

abbrev pub invariant-loop-line : goal.invariant-loop-line
invariant-loop-line l = record {
  clock : (k : ℕ) (until : Option ℤ) → IsSet l.self.clock k until → has_place l.due.keys k ≡ false → IsFrom (l.moment.clock +ℤ pos 1) until;
  floors : (line : ℕ) (timers : EntryTimers) → line < l.line-index → slice_get l.self.floors.items line ≡ Some timers → (k : ℕ) (up_to : Option ℤ) → IsSet timers.timers k up_to → has_place l.due.keys k ≡ false
      → IsFrom (floor l.program (snapshot_at l.moment) timers.entry.0) up_to;
}
