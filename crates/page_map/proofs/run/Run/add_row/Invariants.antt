use Rattle.page_map.proofs.Common.{◌≡◌, ◌<◌, ◌+◌, ◌^◌, ◌++◌, length, All, deque_iter_rest, Directory, ArePagesApart, entries_of, numbered}
use Rattle.page_map.proofs.run.Run.add_row.Given as goal

abbrev pub invariant-loop-place : goal.invariant-loop-place
invariant-loop-place l = record {
  so_far : l.entries.items ++ entries_of (numbered (l.self.first + l.place) (deque_iter_rest l.pages-iterator)) ≡ l.initial.entries.items ++ entries_of (numbered l.self.first l.self.directories.items);
  short : All (λ (directory : Directory). ArePagesApart directory.items) (deque_iter_rest l.pages-iterator);
  end : l.self.first + l.place + length (deque_iter_rest l.pages-iterator) < 2 ^ 53 + 1;
}
