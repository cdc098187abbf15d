use Rattle.{std.proofs.Common.{map, ◌++◌, ◌≡◌}, image_making.proofs.Going.{extra_of}}
use Rattle.image_making.proofs.extras.listed.Given as goal

abbrev pub invariant-loop-entry : goal.invariant-loop-entry
invariant-loop-entry l = l.extras.items ++ map extra_of l.entry-iterator.rest.items ≡ map extra_of l.fn.moved.entries
