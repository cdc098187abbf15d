use Rattle.change_resolve.proofs.Merging.{AreSoFar}
use Rattle.change_resolve.proofs.merge.fields_named.Given as goal

abbrev pub invariant-loop-place : goal.invariant-loop-place
invariant-loop-place l = AreSoFar l.fields l.members l.place l.named.items l.all_given
