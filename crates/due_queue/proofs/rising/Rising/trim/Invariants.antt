use Rattle.due_queue.{proofs.Common.{◌≡◌, length}, specs.Rising.{live, Rises}}
use Rattle.due_queue.proofs.rising.Rising.trim.Given as goal

abbrev pub invariant-gone : goal.invariant-gone
invariant-gone g l = Rises g.M.Ord.cmp g.K.Ord.cmp l.self.entries.items × (live l.self.entries.items ≡ live l.initial.self.entries.items)

abbrev pub decreases-gone : goal.decreases-gone
decreases-gone g l = length l.self.entries.items
