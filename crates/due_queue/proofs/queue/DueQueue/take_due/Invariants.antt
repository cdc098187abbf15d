use Rattle.due_queue.proofs.{Common.{length}, Taking.{IsTaken}}
use Rattle.due_queue.proofs.queue.DueQueue.take_due.Given as goal

abbrev pub invariant-due : goal.invariant-due
invariant-due l = IsTaken l.now l.initial.self-inside.waiting l.self-inside.waiting

abbrev pub decreases-due : goal.decreases-due
decreases-due l = length l.self-inside.waiting
