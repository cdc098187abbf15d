use Rattle.image_making.proofs.Going.{AreGoing}
use Rattle.image_making.proofs.extras.moved_extras.Given as goal

abbrev pub invariant-loop-extra : goal.invariant-loop-extra
invariant-loop-extra l = AreGoing l.old l.new l.fn.extras.items l.extra-iterator.rest.items l.moved
