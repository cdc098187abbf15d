use Rattle.page_map.proofs.Common.{◌≡◌, ◌*◌, ◌++◌, [], ◌+◌, drop, entries_from}
use Rattle.page_map.proofs.page.add_entries.Given as goal

abbrev pub invariant-loop-place : goal.invariant-loop-place
invariant-loop-place l = l.entries.items ++ entries_from (64 * l.number + l.place) (drop l.place l.page) [] ≡ l.initial.entries.items ++ entries_from (64 * l.number) l.page []
