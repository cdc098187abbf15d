use Rattle.page_map.proofs.Common.{◌≡◌, ◌*◌, ◌++◌, [], ◌+◌, drop, entries_by}
use Rattle.page_map.proofs.directory.add_pages.Given as goal

abbrev pub invariant-loop-place : goal.invariant-loop-place
invariant-loop-place l = l.entries.items ++ entries_by (2048 * l.number + 64 * l.place) (drop l.place l.pages) [] ≡ l.initial.entries.items ++ entries_by (2048 * l.number) l.pages []
