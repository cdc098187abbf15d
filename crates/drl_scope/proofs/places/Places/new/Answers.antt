use Rattle.drl_scope.{proofs.Common.{refl}, specs.Names.{place_from}}
use Rattle.drl_scope.proofs.places.Places.new.Goals as goal

pub invariant_of-result : goal.invariant_of-result
unfolding place_from
invariant_of-result c = λ name. rw c.new-2.ensures.empty (rw c.new.ensures.items refl)
