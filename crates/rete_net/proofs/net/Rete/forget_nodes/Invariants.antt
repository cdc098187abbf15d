use Rattle.rete_net.proofs.Common.{◌≡◌, ◌≤◌, ◌-◌, ℕ, length, slice_get, Some, NetNode, AreFans, AreSources, IsLaidAs, AreScheduled, IsReplaced, IsWired}
use Rattle.{rete_net.{specs.Lending.{MayForget}, proofs.{Fading.{IsUnderWay}, Rescheduled.{AreScheduledBut}}}, candidate_source.specs.Sources.{handed_gone}}
use Rattle.candidate_source.specs.Sources.{source_at, AreApart, AreLaidAs}
use Rattle.rete_net.proofs.net.Rete.forget_nodes.Given as goal

abbrev pub invariant-walk : goal.invariant-walk
invariant-walk g l = record {
  ends : l.self.ends ≡ l.fn.self.ends;
  owners : l.self.owners ≡ l.fn.self.owners;
  index : l.self.index ≡ l.fn.self.index;
  quiet : l.self.quiet_until ≡ l.fn.self.quiet_until;
  replaced : IsReplaced l.fn.self.nodes.items l.self.nodes.items;
  laid : IsLaidAs l.fn.self.fans l.self.fans;
  sourced : AreLaidAs l.fn.self.sources l.self.sources;
  apart : AreApart l.fn.self.sources → AreApart l.self.sources;
  scheduled : AreFans l.fn.self.nodes.items l.fn.self.fans → AreApart l.fn.self.sources → AreScheduled l.program l.fn.self.sources l.fn.self.nodes.items l.fn.self.schedule → AreScheduledBut l.program l.self.sources l.self.nodes.items l.self.schedule l.due.keys l.next;
  within : l.next ≤ length l.fn.self.nodes.items;
  way : (wired : IsWired l.fn.self.sources l.fn.self.nodes.items l.fn.self.ends.items l.fn.self.index) → AreFans l.fn.self.nodes.items l.fn.self.fans → (are : AreSources l.fn.self.nodes.items l.fn.self.fans l.fn.self.sources)
      → IsUnderWay l.program (g.F.Facts.map l.facts) l.old l.fn.self.nodes.items l.fn.self.fans l.fn.self.ends.items l.fn.self.index l.fn.self.sources wired are.unseated l.self.sources l.self.nodes.items l.self.fans l.due.keys l.dropped l.next;
  may : IsWired l.fn.self.sources l.fn.self.nodes.items l.fn.self.ends.items l.fn.self.index → AreSources l.fn.self.nodes.items l.fn.self.fans l.fn.self.sources → (k : ℕ) (n : NetNode) → l.next ≤ k → slice_get l.fn.self.nodes.items k ≡ Some n
      → MayForget l.program (g.F.Facts.map l.facts) l.old (source_at l.fn.self.sources k) (source_at l.self.sources k) k n (handed_gone l.self.sources k);
}

abbrev pub decreases-walk : goal.decreases-walk
decreases-walk g l = length l.fn.self.nodes.items - l.next
