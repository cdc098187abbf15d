use Rattle.rete_net.proofs.Common.{◌≡◌, ◌≤◌, ◌-◌, ℕ, length, slice_get, Some, lent, NetNode, AreFans, AreSources, IsLaidAs, AreScheduled, IsReplaced, IsWired}
use Rattle.{rete_net.{specs.Lending.{MayTurn}, proofs.{Rescheduled.{AreScheduledBut}, Steady.{IsUnderWay}}}, std.proofs.Common.{option_map}}
use Rattle.candidate_source.specs.Sources.{handed_come, handed_gone, source_at, AreApart, AreLaidAs}
use Rattle.rete_net.proofs.net.Rete.walk.Given as goal

abbrev pub invariant-walk : goal.invariant-walk
invariant-walk g l = record {
  ends : l.self.ends ≡ l.fn.self.ends;
  owners : l.self.owners ≡ l.fn.self.owners;
  index : l.self.index ≡ l.fn.self.index;
  replaced : IsReplaced l.fn.self.nodes.items l.self.nodes.items;
  laid : IsLaidAs l.fn.self.fans l.self.fans;
  sourced : AreLaidAs l.fn.self.sources l.self.sources;
  apart : AreApart l.fn.self.sources → AreApart l.self.sources;
  within : l.next ≤ length l.fn.self.nodes.items;
  scheduled : AreFans l.fn.self.nodes.items l.fn.self.fans → AreApart l.fn.self.sources → AreScheduled l.program l.fn.self.sources l.fn.self.nodes.items l.fn.self.schedule → AreScheduledBut l.program l.self.sources l.self.nodes.items l.self.schedule l.due.keys l.next;
  way : (wired : IsWired l.fn.self.sources l.fn.self.nodes.items l.fn.self.ends.items l.fn.self.index) → AreScheduled l.program l.fn.self.sources l.fn.self.nodes.items l.fn.self.schedule → AreFans l.fn.self.nodes.items l.fn.self.fans
      → (are : AreSources l.fn.self.nodes.items l.fn.self.fans l.fn.self.sources)
      → IsUnderWay l.program (g.F.Facts.map l.facts) (lent l.gone) (option_map (λ f. f.now) l.fn.come) l.moment l.first l.fn.self.nodes.items l.fn.self.fans l.fn.self.ends.items l.fn.self.index l.fn.self.sources wired are.unseated
      l.self.sources l.self.nodes.items l.self.fans l.due.keys l.answered l.next;
  may : (wired : IsWired l.fn.self.sources l.fn.self.nodes.items l.fn.self.ends.items l.fn.self.index) → AreScheduled l.program l.fn.self.sources l.fn.self.nodes.items l.fn.self.schedule
      → AreSources l.fn.self.nodes.items l.fn.self.fans l.fn.self.sources → (k : ℕ) (n : NetNode) → l.next ≤ k → slice_get l.fn.self.nodes.items k ≡ Some n
      → MayTurn l.program (lent l.gone) (option_map (λ f. f.now) l.fn.come) l.moment.clock (g.F.Facts.map l.facts) (source_at l.fn.self.sources k) (source_at l.self.sources k) k n (handed_gone l.self.sources k) (handed_come l.self.sources k);
}

abbrev pub decreases-walk : goal.decreases-walk
decreases-walk g l = length l.fn.self.nodes.items - l.next
