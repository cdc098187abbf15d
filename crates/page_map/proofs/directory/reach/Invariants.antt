use Rattle.page_map.proofs.Common.{◌≡◌, ℕ, length, ArePagesApart, number_in}
use Rattle.page_map.proofs.directory.reach.Given as goal

abbrev pub invariant-loop-count : goal.invariant-loop-count
invariant-loop-count l = record {
  reached : l._count ≡ length l.pages.items;
  kept : (page place : ℕ) → number_in l.pages.items page place ≡ number_in l.initial.pages.items page place;
  short : ArePagesApart l.initial.pages.items → ArePagesApart l.pages.items;
}
