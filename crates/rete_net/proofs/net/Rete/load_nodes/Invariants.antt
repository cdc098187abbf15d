use Rattle.rete_net.proofs.Common.{◌≡◌, ◌≤◌, ℕ, Some, slice_get, IsStrictlySortedBy, lent, condition_of, pattern_of, extra_cmp, NetNode, AreFans, AreSources}
use Rattle.rete_net.{proofs.{Common.{IsLaidAs, empty_row_comes, IsReplaced, IsWired}, Lading.{IsUnderWay}}, specs.Loads.{MayLoad}}
use Rattle.{rete_net.proofs.Rescheduled.{AreScheduledBelow}, candidate_source.specs.Sources.{source_at, AreApart, AreLaidAs}}
use Rattle.rete_net.proofs.net.Rete.load_nodes.Given as goal

abbrev pub invariant-loop-place : goal.invariant-loop-place
invariant-loop-place g l = record {
  ends : l.self.ends ≡ l.fn.self.ends;
  owners : l.self.owners ≡ l.fn.self.owners;
  index : l.self.index ≡ l.fn.self.index;
  replaced : IsReplaced l.fn.self.nodes.items l.self.nodes.items;
  laid : IsLaidAs l.fn.self.fans l.self.fans;
  sourced : AreLaidAs l.fn.self.sources l.self.sources;
  apart : AreApart l.fn.self.sources → AreApart l.self.sources;
  scheduled : AreScheduledBelow l.program l.self.sources l.self.nodes.items l.self.schedule l.place;
  way : (wired : IsWired l.fn.self.sources l.fn.self.nodes.items l.fn.self.ends.items l.fn.self.index) → IsStrictlySortedBy extra_cmp l.extras → AreFans l.fn.self.nodes.items l.fn.self.fans
      → AreSources l.fn.self.nodes.items l.fn.self.fans l.fn.self.sources
      → IsUnderWay l.program (g.F.Facts.map l.facts) (lent l.kept) l.extras l.moment empty_row_comes l.fn.self.nodes.items l.fn.self.fans l.fn.self.owners.items l.fn.self.ends.items l.fn.self.index l.fn.self.sources wired
      l.self.sources l.self.nodes.items l.self.fans l.answered l.place;
  may : AreSources l.fn.self.nodes.items l.fn.self.fans l.fn.self.sources → (k : ℕ) (n : NetNode) → l.place ≤ k → slice_get l.fn.self.nodes.items k ≡ Some n
      → MayLoad (lent l.kept) l.moment.clock (g.F.Facts.map l.facts) (source_at l.fn.self.sources k) (source_at l.self.sources k) (pattern_of (condition_of n.node));
}
