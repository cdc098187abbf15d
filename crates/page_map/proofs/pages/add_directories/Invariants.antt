use Rattle.page_map.proofs.Common.{◌≡◌, ◌++◌, ◌<◌, ◌^◌, All, keys_of, values_of, Directory, ArePagesApart, entries_of}
use Rattle.page_map.proofs.pages.add_directories.Given as goal

abbrev pub invariant-loop-number : goal.invariant-loop-number
invariant-loop-number l = record {
  so_far : l.entries.items ++ entries_of l.number-iterator ≡ l.initial.entries.items ++ entries_of l.fn.directories;
  numbers : All (λ number. number < 2 ^ 53) (keys_of l.number-iterator);
  short : All (λ (directory : Directory). ArePagesApart directory.items) (values_of l.number-iterator);
}
