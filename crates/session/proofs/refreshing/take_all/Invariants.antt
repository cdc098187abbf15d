use Rattle.session.proofs.Common.{AreGone}
use Rattle.session.proofs.refreshing.take_all.Given as goal

abbrev pub invariant-loop-tag : goal.invariant-loop-tag
invariant-loop-tag l = AreGone l.fn.facts l.fn.tags.items l.facts l.tag-iterator.rest.items
